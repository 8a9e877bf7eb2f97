-- The values of a transcript.
use Rattle.std.specs.Prelude.{◌==◌, ◌&&◌, ℕ, Bool, true, false, List, [], ◌∷◌, Option, Some, None, slice_get, if◌then◌else◌}
use Rattle.std.specs.List.{filter_map}
use Rattle.std.specs.Option.{option_map}
use Rattle.ci_base.specs.declared.numbers.PropNo.{PropNo}
use Rattle.ci_base.specs.declared.value.Value.{Value}
use Rattle.ci_base.specs.declared.value.Value.TheVariants as value
use Rattle.ci_chunk.specs.declared.piece.Piece.{Piece}
use Rattle.ci_chunk.specs.declared.piece.Piece.TheVariants.{Words, Held}
use Rattle.ci_props.specs.declared.property.Kind.{Kind}
use Rattle.ci_props.specs.declared.property.Kind.TheVariants as kind
use Rattle.ci_props.specs.Table.{kind_of_number}

-- whether a value has the kind
abbrev pub has_kind : Option Kind → Value → Bool
has_kind (Some kind.Int) (value.Int _) = true
has_kind (Some kind.Str) (value.Str _) = true
has_kind _ _ = false

-- the value of a property that a piece holds, if it has the property's kind
abbrev pub right_value : ℕ → Piece → Option Value
right_value property (Words _ _) = None
right_value property (Held _ None) = None
right_value property (Held chunk (Some value)) =
    if chunk.property.0 == property && has_kind (kind_of_number property) value then Some value
    else None

-- the values of a property that have its kind, in the order of their pieces
abbrev pub right_values : ℕ → List Piece → List Value
right_values property pieces = filter_map (right_value property) pieces

-- the first of them, with its property
abbrev pub first_value : List Piece → ℕ → Option (PropNo × Value)
first_value pieces property =
    option_map (λ value. (record { 0 = property }, value))
    (slice_get (right_values property pieces) 0)

-- the properties that may have values
abbrev pub valued : List ℕ
valued = 2 ∷ 3 ∷ 4 ∷ 5 ∷ 6 ∷ 7 ∷ 8 ∷ 9 ∷ []

-- the values of a transcript: of each property the first that has its kind
abbrev pub values_of : List Piece → List (PropNo × Value)
values_of pieces = filter_map (first_value pieces) valued
