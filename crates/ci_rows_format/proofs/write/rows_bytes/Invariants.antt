use Rattle.std.proofs.Common.{◌≡◌, ◌++◌, All, codes, length, take}
use Rattle.std.specs.List.{flat_map}
use Rattle.ci_base.specs.Varint.{varint}
use Rattle.ci_rows_format.specs.Rows.{IsRow, row_bytes}
use Rattle.ci_rows_format.proofs.write.rows_bytes.Given as goal

abbrev pub invariant-loop-row : goal.invariant-loop-row
invariant-loop-row l =
    (l.out.items ≡ codes "CIW1" ++ (varint (length l.rows) ++ flat_map row_bytes (take l.row-index l.rows)))
    × All IsRow (take l.row-index l.rows)
