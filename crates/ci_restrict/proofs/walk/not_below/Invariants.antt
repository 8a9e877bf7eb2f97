use Rattle.std.proofs.Common.{◌≡◌, drop}
use Rattle.ci_restrict.specs.Walk.{from, numbers}
use Rattle.ci_restrict.proofs.walk.not_below.Given as goal

abbrev pub invariant-loop-i : goal.invariant-loop-i
invariant-loop-i l = from l.low (numbers l.places) ≡ from l.low (numbers (drop l.i l.places))
