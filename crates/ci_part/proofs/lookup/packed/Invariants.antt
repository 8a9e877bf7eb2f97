use Rattle.std.proofs.Common.{All, Contains, map, take}
use Rattle.ci_part.proofs.lookup.packed.Given as goal

abbrev pub invariant-loop-segment : goal.invariant-loop-segment
invariant-loop-segment g l = All (λ segment. ¬ Contains (map (λ item. item.0) segment) l.key) (take l.segment-index l.segments)
