-- Rows that were read may be spelled, and three rows of a batch are in order.
use Rattle.std.proofs.Common.{◌≡◌, List, [], ◌∷◌, All, refl, arith, true, ap, sym}
use Rattle.std.specs.List.{AllByRecursion}
use Rattle.std.proofs.lemmas.List.Elements.{All-from_recursion}
use Rattle.ci_base.specs.declared.numbers.PropNo.{PropNo}
use Rattle.ci_base.specs.declared.value.Value.{Value}
use Rattle.ci_props.specs.Table.{kind_of_number}
use Rattle.ci_rows_format.specs.declared.row.Row.{Row}
use Rattle.ci_rows_format.specs.Rows.{HasRightValues, IsRow, IsRows, IsRowValue, has_kind}

kinds : (values : List (PropNo × Value)) → AllByRecursion IsRowValue values → AllByRecursion (λ value. has_kind (kind_of_number value.0.0) value.1 ≡ true) values
kinds [] are = tt
kinds (v ∷ vs) are = (are.0.kind, kinds vs are.1)

each : (rows : List Row) → AllByRecursion IsRow rows → AllByRecursion HasRightValues rows
each [] are = tt
each (r ∷ rs) are = (record { state = are.0.state; kinds = kinds r.values are.0.values.each; ascend = are.0.values.ascend }, each rs are.1)

pub right_rows : (rows : List Row) → IsRows rows → All HasRightValues rows
right_rows rows are = All-from_recursion HasRightValues rows (each rows are.each)
