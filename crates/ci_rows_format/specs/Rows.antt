-- How rows are spelled: the letters CIW1 and the rows behind their count. A row is the document's number, its path
-- behind its length, the number of the notice, a byte for its state, and the values behind their count. A value is
-- the property's number, a byte for its kind, and a signed number in eight bytes or a text behind its length.
use Rattle.std.specs.Prelude.{◌≡◌, ℕ, ◌^◌, ◌<◌, ⊤, Bool, true, false, List, [], ◌∷◌, ◌++◌, Option, Some, None, length, map, codes, IsUtf8, FitsSigned}
use Rattle.std.specs.Int.{w64}
use Rattle.std.specs.List.{AllByRecursion}
use Rattle.std.specs.List.Sorted.{IsStrictlySortedBy}
use Rattle.std.specs.Ordering.{nat_cmp}
use Rattle.ci_base.specs.Path.{IsPath}
use Rattle.ci_base.specs.Varint.{varint}
use Rattle.ci_base.specs.declared.numbers.PropNo.{PropNo}
use Rattle.ci_base.specs.declared.value.Value.{Value}
use Rattle.ci_base.specs.declared.value.Value.TheVariants.{Int, Str}
use Rattle.ci_front.specs.Front.{counted, i64_bytes, sized}
use Rattle.ci_props.specs.Table.{kind_of_number}
use Rattle.ci_props.specs.declared.property.Kind.{Kind}
use Rattle.ci_props.specs.declared.property.Kind.TheVariants as kinds
use Rattle.ci_rows_format.specs.declared.row.Row.{Row}
use Rattle.ci_rows_format.specs.declared.row.RowState.{RowState}
use Rattle.ci_rows_format.specs.declared.row.RowState.TheVariants.{Kept, Erased}

-- the byte of a state
abbrev pub state_byte : RowState → ℕ
state_byte Kept = 1
state_byte Erased = 2

-- a value with the byte of its kind
abbrev pub held_bytes : Value → List ℕ
held_bytes (Int number) = 1 ∷ i64_bytes number
held_bytes (Str text) = 2 ∷ sized text

abbrev pub value_bytes : PropNo × Value → List ℕ
value_bytes value = varint value.0.0 ++ held_bytes value.1

abbrev pub row_bytes : Row → List ℕ
row_bytes row =
    varint row.doc.0 ++ (sized row.path ++ (varint row.seq.0 ++ (state_byte row.state ∷ [] ++ counted value_bytes row.values)))

-- the one spelling of rows
unfoldable pub rows_spelling : List Row → List ℕ
rows_spelling rows = codes "CIW1" ++ counted row_bytes rows

-- a number in a property of numbers, or a text in one of texts
abbrev pub has_kind : Option Kind → Value → Bool
has_kind (Some kinds.Int) (Int _) = true
has_kind (Some kinds.Str) (Str _) = true
has_kind (Some kinds.Int) (Str _) = false
has_kind (Some kinds.Str) (Int _) = false
has_kind (Some kinds.Words) _ = false
has_kind None _ = false

-- what may stand in a value
abbrev pub IsHeld : Value → Type 0
IsHeld (Int number) = FitsSigned w64 number
IsHeld (Str text) = IsUtf8 text × (length text < 2 ^ 64)

pub record IsRowValue (value : PropNo × Value) : Type 0 where
  pub property : value.0.0 < 2 ^ 16
  pub kind : has_kind (kind_of_number value.0.0) value.1 ≡ true
  pub held : IsHeld value.1

-- what `of` reads of each element rises
abbrev pub Rises : {X : Type 0} → (X → ℕ) → List X → Type 0
Rises of xs = IsStrictlySortedBy nat_cmp (map of xs)

-- values of the kinds that their properties have, of each property at most one, and in order
pub record AreRowValues (values : List (PropNo × Value)) : Type 0 where
  pub few : length values < 2 ^ 64
  pub each : AllByRecursion IsRowValue values
  pub ascend : Rises (λ value. value.0.0) values

-- a document that was taken away has no values
abbrev pub MayHave : RowState → List (PropNo × Value) → Type 0
MayHave Kept values = ⊤
MayHave Erased values = values ≡ []

-- what may stand in a row
pub record IsRow (row : Row) : Type 0 where
  pub doc : row.doc.0 < 2 ^ 32
  pub path : IsPath row.path
  pub seq : row.seq.0 < 2 ^ 64
  pub state : MayHave row.state row.values
  pub values : AreRowValues row.values

-- the grammar: rows in the order of their documents, of each document at most one
pub record IsRows (rows : List Row) : Type 0 where
  pub few : length rows < 2 ^ 64
  pub each : AllByRecursion IsRow rows
  pub ascend : Rises (λ row. row.doc.0) rows

-- what a caller of `rows_bytes` has to know of a row: the kinds and the order of its values
pub record HasRightValues (row : Row) : Type 0 where
  pub state : MayHave row.state row.values
  pub kinds : AllByRecursion (λ value. has_kind (kind_of_number value.0.0) value.1 ≡ true) row.values
  pub ascend : Rises (λ value. value.0.0) row.values
