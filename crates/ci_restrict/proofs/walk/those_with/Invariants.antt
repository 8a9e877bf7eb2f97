use Rattle.ci_restrict.specs.Walk.{numbers}
use Rattle.ci_restrict.proofs.WalkLemmas.{Walked}
use Rattle.ci_restrict.proofs.walk.those_with.Given as goal

abbrev pub invariant-loop-place : goal.invariant-loop-place
invariant-loop-place l =
    Walked l.further l.within (numbers l.places) (numbers l.others) l.place-index (numbers l.kept.items) (numbers l.rest)
