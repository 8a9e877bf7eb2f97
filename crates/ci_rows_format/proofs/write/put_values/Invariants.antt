use Rattle.std.proofs.Common.{◌≡◌, ◌^◌, ◌<◌, ◌++◌, All, length, take}
use Rattle.std.specs.List.{flat_map}
use Rattle.ci_base.specs.Varint.{varint}
use Rattle.ci_rows_format.specs.Rows.{IsHeld, value_bytes}
use Rattle.ci_rows_format.proofs.write.put_values.Given as goal

abbrev pub invariant-loop-property : goal.invariant-loop-property
invariant-loop-property l =
    (l.out.items ≡ l.fn.out.items ++ (varint (length l.values) ++ flat_map value_bytes (take l.property-index l.values)))
    × All (λ value. (value.0.0 < 2 ^ 16) × IsHeld value.1) (take l.property-index l.values)
