-- The terms that compare values, match patterns and bound paths.
use Rattle.std.specs.Prelude.{ℕ, ◌^◌, ◌+◌, ◌-◌, ◌*◌, ◌==◌, ◌&&◌, ◌||◌, Bool, true, false, nat_le, nat_lt, List, [], ◌∷◌, drop, length, slice_index, Option, Some, None, Result, Ok, Err, ℤ, pos, neg_ℤ, bytes_eq, codes, option_and_then, option_map, if◌then◌else◌}
use Rattle.std.specs.List.{list_all}
use Rattle.std.specs.Str.{is_utf8, str_eq_ignore_ascii_case}
use Rattle.ci_base.specs.declared.numbers.PropNo.{PropNo}
use Rattle.ci_base.specs.declared.value.Value.TheVariants as value
use Rattle.ci_base.specs.Path.{has_path_form}
use Rattle.ci_paths.specs.Prefix.{prefix_of}
use Rattle.ci_props.specs.declared.property.Kind.{Kind}
use Rattle.ci_props.specs.declared.property.Kind.TheVariants.{Words, Int, Str}
use Rattle.ci_props.specs.declared.relation.Relation.{Relation}
use Rattle.ci_props.specs.Table.{kind_of_number, number_of_name}
use Rattle.ci_pieces.specs.Cut.{Cut}
use Rattle.ci_dialect.specs.declared.fault.QueryFault.{QueryFault}
use Rattle.ci_dialect.specs.declared.fault.QueryFault.TheVariants.{Bad, UnknownProperty, WrongKind}
use Rattle.ci_dialect.specs.declared.restriction.Restriction.{Restriction}
use Rattle.ci_dialect.specs.declared.restriction.Restriction.TheVariants as restriction

-- the property of a name, and its kind
abbrev pub known : List ℕ → Option (PropNo × Kind)
known name =
    option_and_then (λ property. option_map (λ kind. (property, kind)) (kind_of_number property.0)) (number_of_name name)

-- ---- numbers

abbrev pub is_digit : ℕ → Bool
is_digit b = nat_le 48 b && nat_le b 57

-- 1 to 19 digits
abbrev pub is_digits : List ℕ → Bool
is_digits text = nat_le 1 (length text) && nat_le (length text) 19 && list_all is_digit text

-- the number that digits write behind those of another
abbrev pub value_behind : ℕ → List ℕ → ℕ
value_behind n [] = n
value_behind n (digit ∷ more) = value_behind (10 * n + (digit - 48)) more

-- a minus sign (45) stands first
abbrev pub is_negative : List ℕ → Bool
is_negative text = slice_index text 0 == 45

abbrev pub unsigned : List ℕ → List ℕ
unsigned text = if is_negative text then drop 1 text else text

-- a number of this size, if 64 bits have it
abbrev pub fitting : Bool → ℕ → Option ℤ
fitting true size = if nat_le size (2 ^ 63) then Some (neg_ℤ (pos size)) else None
fitting false size = if nat_lt size (2 ^ 63) then Some (pos size) else None

-- the number that an optional minus sign and 1 to 19 digits write, if it is one of 64 bits
abbrev pub number_of : List ℕ → Option ℤ
number_of text =
    if is_digits (unsigned text) then fitting (is_negative text) (value_behind 0 (unsigned text)) else None

-- ---- `@name` with items

abbrev pub worded_by : Option (PropNo × Kind) → Cut → Result PropNo QueryFault
worded_by None name = Err (UnknownProperty name.at)
worded_by (Some (property, Words)) name = Ok property
worded_by (Some (property, Str)) name = Ok property
worded_by (Some (property, Int)) name = Err (WrongKind name.at)

-- the property, which may have words
abbrev pub worded : Cut → Result PropNo QueryFault
worded name = worded_by (known name.text) name

-- ---- `@name` with a comparison and a value

abbrev pub compared_number : PropNo → Relation → Cut → Option ℤ → Result Restriction QueryFault
compared_number property relation given (Some number) = Ok (restriction.Property property relation (value.Int number))
compared_number property relation given None = Err (WrongKind given.at)

abbrev pub compared_by : Option (PropNo × Kind) → Cut → Relation → Cut → Result Restriction QueryFault
compared_by None name relation given = Err (UnknownProperty name.at)
compared_by (Some (property, Words)) name relation given = Err (WrongKind name.at)
compared_by (Some (property, Str)) name relation given = Ok (restriction.Property property relation (value.Str given.text))
compared_by (Some (property, Int)) name relation given = compared_number property relation given (number_of given.text)

abbrev pub compared : Cut → Relation → Cut → Result Restriction QueryFault
compared name relation given = compared_by (known name.text) name relation given

-- ---- `#name` with a value

-- a text spells a prefix of paths
abbrev pub is_prefix : List ℕ → Bool
is_prefix text = bytes_eq text (codes "/") || (is_utf8 text && has_path_form text)

abbrev pub scoped : Cut → Result Restriction QueryFault
scoped given = if is_prefix given.text then Ok (restriction.Scope (prefix_of given.text)) else Err (Bad given.at)

abbrev pub patterned_by : Option (PropNo × Kind) → Cut → Cut → Result Restriction QueryFault
patterned_by None name given = Err (UnknownProperty name.at)
patterned_by (Some (property, Words)) name given = Err (WrongKind name.at)
patterned_by (Some (property, Int)) name given = Err (WrongKind name.at)
patterned_by (Some (property, Str)) name given = Ok (restriction.Pattern property given.text)

abbrev pub patterned : Cut → Cut → Result Restriction QueryFault
patterned name given =
    if str_eq_ignore_ascii_case name.text (codes "scope") then scoped given
    else patterned_by (known name.text) name given
