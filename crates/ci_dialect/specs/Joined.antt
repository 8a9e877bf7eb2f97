-- How operands become one restriction.
use Rattle.std.specs.Prelude.{List, [], ◌∷◌, Option, Some, None}
use Rattle.ci_base.specs.declared.numbers.PropNo.{PropNo}
use Rattle.ci_dialect.specs.declared.restriction.Restriction.{Restriction, Content, Phrase}

-- the property of the document's text
abbrev pub contents : PropNo
contents = record { 0 = 1 }

-- one operand stands for itself; more are joined, in order
abbrev pub joined : (List Restriction → Restriction) → Restriction → List Restriction → Restriction
joined join first [] = first
joined join first (second ∷ more) = join (first ∷ second ∷ more)

-- the property of words or of a phrase; nothing else has one here
unfoldable pub property_in : Restriction → Option PropNo
property_in (Content property word prefix) = Some property
property_in (Phrase property slots) = Some property
property_in _ = None
