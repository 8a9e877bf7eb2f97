use Rattle.std.proofs.Common.{◌≡◌, ◌++◌, take}
use Rattle.ci_part.specs.Keys.{all_keys}
use Rattle.ci_part.specs.Range.{beginning}
use Rattle.ci_part.proofs.range.add_packed.Given as goal

abbrev pub invariant-loop-segment : goal.invariant-loop-segment
invariant-loop-segment l = l.keys.items ≡ l.fn.keys.items ++ beginning l.first (all_keys (take l.segment-index l.segments))
