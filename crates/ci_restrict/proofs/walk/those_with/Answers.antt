use Rattle.std.proofs.Common.{◌+◌, ◌-◌, ◌<◌, ◌++◌, ◌∷◌, [], length, sym, ap, subst, ◌∙◌}
use Rattle.std.specs.List.Sorted.{IsNonDecreasing}
use Rattle.std.proofs.lemmas.List.{get_or-map, length-map, map-append}
use Rattle.std.proofs.lemmas.List.Sorted.{IsNonDecreasingBy-take}
use Rattle.ci_base.specs.declared.numbers.Place.{Place}
use Rattle.ci_restrict.specs.Walk.{BeginsFrom, from, numbers}
use Rattle.ci_restrict.proofs.WalkLemmas.{Walked, begins-from, rise-filter, rise-from, stands, walked-no, walked-yes}
use Rattle.ci_restrict.proofs.walk.those_with.Goals as goal
use Rattle.ci_restrict.proofs.walk.those_with.Goals.{then-is_next_upto+in_ok-push, else-is_next_upto}

pub is_next_upto-requires : goal.is_next_upto-requires
is_next_upto-requires c = subst IsNonDecreasing (sym c.not_below-rest.ensures.from) (rise-from c.saturating_sub.result (numbers c.loop-place.rest.now) c.loop-place.invariant.rises)

pub loop-place-preserved : goal.loop-place-preserved
loop-place-preserved c =
    let further = c.args.further in
    let within = c.args.within in
    let places = numbers c.args.places.now in
    let others = numbers c.args.others.now in
    let i = c.loop-place.place-index in
    let kept = c.loop-place.kept.items in
    let rest = numbers c.loop-place.rest.now in
    let rest' = numbers c.not_below-rest.result.now in
    let at = c.from.result in
    let low = at + further - within in
    let first : Place = record { 0 = 0 } in
    let lt : i < length places = subst (λ n. i < n) (sym (length-map c.args.places.now (λ (p : Place). p.0))) c.loop-place-test.true in
    let is = c.from.ensures ∙ sym (get_or-map (λ (p : Place). p.0) c.args.places.now i first at c.loop-place-test.true) in
    let left = c.not_below-rest.ensures.from ∙ ap (λ n. from n rest) c.saturating_sub.ensures in
    let stood = c.is_next_upto.ensures low (subst (BeginsFrom low) (sym left) (begins-from low rest)) in
    elim c.if-is_next_upto.branch [
      | then-is_next_upto+in_ok-push w ↦
          let pushed =
          ap (λ v. numbers v.items) w.kept-is ∙ ap numbers w.in_ok-push.ensures.items
          ∙ map-append (λ (p : Place). p.0) kept _ ∙ ap (λ n. numbers kept ++ n ∷ []) (sym c.from.ensures) in
          subst (λ ks. Walked further within places others (i + 1) ks rest') (sym pushed)
          (walked-yes further within places others i (numbers kept) rest c.loop-place.invariant c.requires.places at lt is rest' left (sym w.if-is_next_upto.true ∙ stood))
      | else-is_next_upto w ↦
          subst (λ ks. Walked further within places others (i + 1) ks rest') (sym (ap (λ v. numbers v.items) w.kept-is))
          (walked-no further within places others i (numbers kept) rest c.loop-place.invariant c.requires.places at lt is rest' left (sym w.if-is_next_upto.false ∙ stood))
    ]

pub returns-clause-rise : goal.returns-clause-rise
returns-clause-rise c =
    let places = numbers c.args.places.now in
    let i = c.loop-place.place-index in
    subst IsNonDecreasing (sym c.loop-place.invariant.kept_are)
    (rise-filter (stands c.args.further c.args.within (numbers c.args.others.now)) _ (IsNonDecreasingBy-take (λ n. n) i places c.requires.places))
