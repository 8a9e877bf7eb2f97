use Rattle.std.proofs.Common.{◌≤◌}
use Rattle.ci_paths.specs.Places.{least_empty}
use Rattle.ci_paths.proofs.places.first_empty.Given as goal

-- no place before this one is empty
abbrev pub invariant-loop-at : goal.invariant-loop-at
invariant-loop-at l = l.at ≤ least_empty l.places
