use Rattle.std.proofs.Common.{◌≡◌, ◌++◌, take}
use Rattle.ci_part.specs.Range.{beginning}
use Rattle.ci_part.proofs.range.add_listed.Given as goal

abbrev pub invariant-loop-at : goal.invariant-loop-at
invariant-loop-at l = l.keys.items ≡ l.fn.keys.items ++ beginning l.first (take l.at l.items)
