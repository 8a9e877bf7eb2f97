-- How values compare: numbers by value, texts by their bytes.
use Rattle.std.specs.Prelude.{Bool, true, false, Option, Some, None}
use Rattle.std.specs.declared.cmp.Ordering.{Ordering}
use Rattle.std.specs.declared.cmp.Ordering.TheVariants.{Less, Equal, Greater}
use Rattle.std.specs.Cmp.Lexicographic.{slice_cmp}
use Rattle.std.specs.Ordering.{nat_cmp, int_cmp}
use Rattle.ci_base.specs.declared.value.Value.{Value}
use Rattle.ci_base.specs.declared.value.Value.TheVariants.{Int, Str}
use Rattle.ci_props.specs.declared.relation.Relation.{Relation}
use Rattle.ci_props.specs.declared.relation.Relation.TheVariants.{Lt, Le, Gt, Ge, Eq, Ne}

-- the relation holds of two values in this order
abbrev pub relates : Relation → Ordering → Bool
relates Lt Less = true
relates Lt Equal = false
relates Lt Greater = false
relates Le Less = true
relates Le Equal = true
relates Le Greater = false
relates Gt Less = false
relates Gt Equal = false
relates Gt Greater = true
relates Ge Less = false
relates Ge Equal = true
relates Ge Greater = true
relates Eq Less = false
relates Eq Equal = true
relates Eq Greater = false
relates Ne Less = true
relates Ne Equal = false
relates Ne Greater = true

-- whether the relation holds of two numbers or of two texts, and nothing of a number and a text
abbrev pub compared : Relation → Value → Value → Option Bool
compared relation (Int left) (Int right) = Some (relates relation (int_cmp left right))
compared relation (Str left) (Str right) = Some (relates relation (slice_cmp nat_cmp left right))
compared relation (Int left) (Str right) = None
compared relation (Str left) (Int right) = None
