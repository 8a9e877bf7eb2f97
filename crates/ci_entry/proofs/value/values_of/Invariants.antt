use Rattle.std.proofs.Common.{◌≡◌, take}
use Rattle.std.specs.List.{filter_map}
use Rattle.ci_entry.specs.Values.{first_value}
use Rattle.ci_entry.proofs.value.values_of.Given as goal

abbrev pub invariant-loop-number : goal.invariant-loop-number
invariant-loop-number l = l.values.items ≡ filter_map (first_value l.pieces) (take l.number-index l.number-items)
