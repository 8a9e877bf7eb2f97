use Rattle.std.proofs.Common.{◌+◌, ◌∷◌, drop, filter, sym, ap, ◌∙◌}
use Rattle.std.proofs.lemmas.List.{at_drop_all, at_drop_more}
use Rattle.ci_dialect.specs.Places.{follow}
use Rattle.ci_restrict.specs.Walk.{numbers}
use Rattle.ci_restrict.proofs.WordLemmas.{filter-all, follow-more}
use Rattle.ci_restrict.proofs.word.followed.Goals as goal

pub loop-i-preserved : goal.loop-i-preserved
loop-i-preserved c =
    let words = c.args.entry.now.words in
    let property = c.args.property in
    let more = c.args.more.now in
    let i = c.loop-i.i in
    let slot = c.index-more-i.result in
    let kept = numbers c.loop-i.places.items in
    let next = at_drop_more (λ slots. filter (λ p. follow words property (p + (i + 1)) slots) kept) more i slot c.loop-i-test.true in
    let read = ap (λ s. filter (λ p. follow words property (p + (i + 1)) (s ∷ drop (i + 1) more)) kept) (sym c.index-more-i.is) in (
      c.in_ok-places-2.ensures.rise,
      c.loop-i.invariant.1 ∙ next ∙ read ∙ follow-more words property (i + 1) slot (drop (i + 1) more) kept (numbers c.in_ok-places-2.places.items) c.in_ok-places-2.ensures.ok,
    )

pub returns-clause-ok : goal.returns-clause-ok
returns-clause-ok c =
    let words = c.args.entry.now.words in
    let property = c.args.property in
    let i = c.loop-i.i in
    let kept = numbers c.loop-i.places.items in
    let done = at_drop_all (λ slots. filter (λ p. follow words property (p + (i + 1)) slots) kept) c.args.more.now i c.loop-i-test.false in
    sym (c.loop-i.invariant.1 ∙ done ∙ filter-all kept)
