use Rattle.std.proofs.Common.{◌≡◌, map, take}
use Rattle.std.specs.List.{flat_map}
use Rattle.ci_part.specs.Part.{lists_of}
use Rattle.ci_part.specs.Range.{beginning}
use Rattle.ci_part.proofs.view.View.range.Given as goal

abbrev pub invariant-loop-part : goal.invariant-loop-part
invariant-loop-part l = l.keys.items ≡ flat_map (λ part. beginning l.first part.keys) (map lists_of (take l.part-index l.part-items))
