use Rattle.std.proofs.Common.{◌≡◌, take}
use Rattle.ci_rows_format.proofs.values.copy_values.Given as goal

abbrev pub invariant-loop-property : goal.invariant-loop-property
invariant-loop-property l = l.copied.items ≡ take l.property-index l.values
