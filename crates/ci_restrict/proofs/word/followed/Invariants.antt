use Rattle.std.proofs.Common.{◌≡◌, ◌+◌, drop, filter}
use Rattle.ci_dialect.specs.Places.{follow}
use Rattle.ci_restrict.specs.Walk.{Rise, numbers}
use Rattle.ci_restrict.proofs.word.followed.Given as goal

-- behind those kept the slots that are left stand where all stand behind the first
abbrev pub invariant-loop-i : goal.invariant-loop-i
invariant-loop-i l =
    Rise l.places.items
    × (filter (λ p. follow l.entry.words l.property (p + 1) l.more) (numbers l.first)
    ≡ filter (λ p. follow l.entry.words l.property (p + (l.i + 1)) (drop l.i l.more)) (numbers l.places.items))
