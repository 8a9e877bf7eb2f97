-- What is said of a document's values.
use Rattle.std.specs.Prelude.{ℕ, ◌==◌, ◌&&◌, Bool, false, List, chars, unwrap_or}
use Rattle.std.specs.List.{list_any}
use Rattle.ci_base.specs.declared.numbers.PropNo.{PropNo}
use Rattle.ci_base.specs.declared.value.Value.{Value}
use Rattle.ci_base.specs.declared.value.Value.TheVariants.{Int, Str}
use Rattle.ci_props.specs.declared.relation.Relation.{Relation}
use Rattle.ci_props.specs.Compare.{compared}
use Rattle.ci_props.specs.Pattern.{matches}

-- there is a value of the property that passes a test
abbrev pub has_value : List (PropNo × Value) → PropNo → (Value → Bool) → Bool
has_value values property test = list_any (λ v. v.0.0 == property.0 && test v.1) values

-- the document's value stands so to the given one; values of two kinds don't compare
abbrev pub stands_to : Relation → Value → Value → Bool
stands_to relation given value = unwrap_or (compared relation value given) false

-- the value is a text that matches
abbrev pub is_match : List ℕ → Value → Bool
is_match pattern (Str text) = matches (chars pattern) (chars text)
is_match pattern (Int number) = false
