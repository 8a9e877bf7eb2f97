-- How rows are read, field by field. The functions of this crate cite it; the law of rows says what it means.
use Rattle.std.specs.Prelude.{◌≡◌, ℕ, ◌^◌, ◌==◌, ◌&&◌, Bool, true, List, [], ◌∷◌, Option, Some, None, Result, Ok, Err, ⊤, length, map, codes, bytes_eq, nat_lt, if◌then◌else◌}
use Rattle.std.specs.Str.{is_utf8}
use Rattle.ci_base.specs.Path.{has_path_form}
use Rattle.ci_base.specs.declared.numbers.PropNo.{PropNo}
use Rattle.ci_base.specs.declared.value.Value.{Value}
use Rattle.ci_base.specs.declared.value.Value.TheVariants.{Int, Str}
use Rattle.ci_front.specs.Front.{Front, ◌>>=◌, both_at, bytes_at, counted_at, i64_at, number_at, rises, seen_at, sized_at}
use Rattle.ci_props.specs.Table.{kind_of_number}
use Rattle.ci_rows_format.specs.Rows.{has_kind}
use Rattle.ci_rows_format.specs.declared.fault.RowsFault.{RowsFault}
use Rattle.ci_rows_format.specs.declared.fault.RowsFault.TheVariants as faults
use Rattle.ci_rows_format.specs.declared.row.Row.{Row}
use Rattle.ci_rows_format.specs.declared.row.RowState.{RowState}
use Rattle.ci_rows_format.specs.declared.row.RowState.TheVariants.{Kept, Erased}

-- what a function returned, seen by `view`, is what is read, unless there was no memory
abbrev pub Fails : {Y : Type 0} → RowsFault → Option Y → Type 0
Fails faults.BadRows read = read ≡ None
Fails faults.OutOfMemory read = ⊤

abbrev pub Gives : {X Y : Type 0} → (X → Y) → Result X RowsFault → Option Y → Type 0
Gives view (Ok x) read = read ≡ Some (view x)
Gives view (Err e) read = Fails e read

unfoldable pub doc_at : Front ℕ
doc_at = seen_at (λ n. nat_lt n (2 ^ 32)) (λ n. n) number_at

unfoldable pub path_at : Front (List ℕ)
path_at = seen_at (λ text. is_utf8 text && has_path_form text) (λ text. text) sized_at

unfoldable pub state_at : Front RowState
state_at [] = None
state_at (b ∷ rest) = if b == 1 then Some (Kept, rest) else if b == 2 then Some (Erased, rest) else None

unfoldable pub text_at : Front (List ℕ)
text_at = seen_at is_utf8 (λ text. text) sized_at

abbrev pub int_at : Front Value
int_at bytes = i64_at bytes >>= λ n. Some (Int n.0, n.1)

unfoldable pub held_at : Front Value
held_at [] = None
held_at (b ∷ rest) =
    if b == 1 then int_at rest
    else if b == 2 then (text_at rest >>= λ t. Some (Str t.0, t.1))
    else None

-- a property whose values have the kind of this value
abbrev pub is_row_value : ℕ × Value → Bool
is_row_value value = nat_lt value.0 (2 ^ 16) && has_kind (kind_of_number value.0) value.1

abbrev pub value_of : ℕ × Value → PropNo × Value
value_of value = (record { 0 = value.0 }, value.1)

unfoldable pub value_at : Front (PropNo × Value)
value_at = seen_at is_row_value value_of (both_at number_at held_at)

unfoldable pub values_at : Front (List (PropNo × Value))
values_at = seen_at (λ values. rises (map (λ value. value.0.0) values)) (λ values. values) (counted_at value_at)

-- the fields of a row in their order
abbrev pub Fields : Type 0
Fields = ℕ × (List ℕ × (ℕ × (RowState × List (PropNo × Value))))

unfoldable pub fields_at : Front Fields
fields_at = both_at doc_at (both_at path_at (both_at number_at (both_at state_at values_at)))

abbrev pub may_have : RowState → List (PropNo × Value) → Bool
may_have Kept values = true
may_have Erased values = length values == 0

abbrev pub row_of : Fields → Row
row_of f = record { doc = record { 0 = f.0 }; path = f.1.0; seq = record { 0 = f.1.1.0 }; state = f.1.1.1.0; values = f.1.1.1.1 }

abbrev pub fields_of : Row → Fields
fields_of row = (row.doc.0, (row.path, (row.seq.0, (row.state, row.values))))

unfoldable pub row_at : Front Row
row_at = seen_at (λ f. may_have f.1.1.1.0 f.1.1.1.1) row_of fields_at

-- the bytes behind the letters
abbrev pub magic_at : List ℕ → Option (List ℕ)
magic_at bytes = bytes_at 4 bytes >>= λ tag. if bytes_eq tag.0 (codes "CIW1") then Some tag.1 else None

-- all of the bytes
unfoldable pub rows_of : List ℕ → Option (List Row)
rows_of bytes =
    magic_at bytes >>= λ rest.
    counted_at row_at rest >>= λ rows.
    if (length rows.1 == 0) && rises (map (λ row. row.doc.0) rows.0) then Some rows.0 else None
