use Rattle.std.proofs.Common.{rules, ◌≡◌, ◌==◌, ◌+◌, ◌∷◌, drop, filter, length, not, vec_len, sym, ap, ◌∙◌}
use Rattle.std.specs.List.{list_any}
use Rattle.std.proofs.lemmas.List.{at_drop_all, at_drop_more}
use Rattle.ci_dialect.specs.Near.{near_behind}
use Rattle.ci_restrict.specs.Walk.{numbers}
use Rattle.ci_restrict.proofs.NearLemmas.{any-place, near-more}
use Rattle.ci_restrict.proofs.WalkLemmas.{stands}
use Rattle.ci_restrict.proofs.near.are_behind.Goals as goal

pub loop-term-preserved : goal.loop-term-preserved
loop-term-preserved c =
    let words = c.args.entry.now.words in
    let terms = c.args.terms.now in
    let i = c.loop-term.term-index in
    let term = c.term-item.result in
    let before = numbers c.loop-term.places.items in
    let all = numbers c.in_ok-all.all.items in
    let kept = numbers c.in_ok-places.places.items in
    let next = at_drop_more (λ rest. list_any (λ p. near_behind words p rest) before) terms i term c.loop-term-test.true in
    let read = ap (λ r. list_any (λ p. near_behind words p (r ∷ drop (i + 1) terms)) before) (sym c.term-item.is) in
    let are =
    c.in_ok-places.ensures.ok ∙ ap (λ ps. filter (stands 0 50 (numbers c.as_slice-in-loop-term.result.now)) (numbers ps)) c.as_slice.ensures.value
    ∙ ap (λ ps. filter (stands 0 50 (numbers ps)) all) c.as_slice-in-loop-term.ensures.value in (
      c.in_ok-places.ensures.rise,
      c.loop-term.invariant.1 ∙ next ∙ read ∙ near-more words term all c.in_ok-all.ensures.same (drop (i + 1) terms) before kept are,
    )

pub returns : goal.returns
returns c =
    let words = c.args.entry.now.words in
    let before = numbers c.loop-term.places.items in
    let done = at_drop_all (λ rest. list_any (λ p. near_behind words p rest) before) c.args.terms.now c.loop-term.term-index c.loop-term-test.false in
    let count : vec_len c.loop-term.places ≡ length c.loop-term.places.items = search rules in
    sym (c.loop-term.invariant.1 ∙ done ∙ sym (ap not (c.is_empty.ensures ∙ ap (λ n. n == 0) count) ∙ any-place c.loop-term.places.items))
