use Rattle.std.proofs.Common.{◌≡◌, drop}
use Rattle.std.specs.List.{list_any}
use Rattle.ci_dialect.specs.Near.{near_behind}
use Rattle.ci_restrict.specs.Walk.{Rise, numbers}
use Rattle.ci_restrict.proofs.near.are_behind.Given as goal

-- the terms that are left stand behind those kept where all stand behind the first
abbrev pub invariant-loop-term : goal.invariant-loop-term
invariant-loop-term l =
    Rise l.places.items
    × (list_any (λ p. near_behind l.entry.words p l.terms) (numbers l.fn.first.items)
    ≡ list_any (λ p. near_behind l.entry.words p (drop l.term-index l.terms)) (numbers l.places.items))
