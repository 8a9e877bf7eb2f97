-- Well formed restrictions: what stands beside `~` are words and phrases of one property, a phrase begins with a word,
-- and there is an operand.
use Rattle.std.specs.Prelude.{◌≡◌, ◌≢◌, List, [], ◌∷◌, ⊤}
use Rattle.std.specs.List.{AllByRecursion}
use Rattle.ci_base.specs.declared.numbers.PropNo.{PropNo}
use Rattle.ci_dialect.specs.declared.restriction.Restriction.{Restriction, Content, Phrase, Proximity', Property, Pattern, Scope, And', Or', Not', Row_of-Restriction, end_of-Restriction, more_of-Restriction, items-the_row-Restriction}
use Rattle.ci_dialect.specs.declared.slots.Slot.{Slot}
use Rattle.ci_dialect.specs.declared.slots.Slot.TheVariants.{Word}

-- the first place is a word
abbrev pub IsPhrase : List Slot → Type 0
IsPhrase (Word word ∷ more) = ⊤
IsPhrase _ = ⊥

-- words or a phrase of the property
abbrev pub IsTerm : PropNo → Restriction → Type 0
IsTerm property (Content other word prefix) = other ≡ property
IsTerm property (Phrase other slots) = (other ≡ property) × IsPhrase slots
IsTerm property _ = ⊥

-- terms of the property, and there is one
abbrev pub AreTerms : PropNo → List Restriction → Type 0
AreTerms property terms = (terms ≢ []) × AllByRecursion (IsTerm property) terms

abbrev mutual
  pub IsWellFormed : Restriction → Type 0
  IsWellFormed (Content property word prefix) = ⊤
  IsWellFormed (Phrase property slots) = IsPhrase slots
  IsWellFormed (Proximity' property _ row) = AreTerms property (items-the_row-Restriction _ row)
  IsWellFormed (Property property relation given) = ⊤
  IsWellFormed (Pattern property pattern) = ⊤
  IsWellFormed (Scope prefix) = ⊤
  IsWellFormed (And' _ row) = (items-the_row-Restriction _ row ≢ []) × AreWellFormed row
  IsWellFormed (Or' _ row) = (items-the_row-Restriction _ row ≢ []) × AreWellFormed row
  IsWellFormed (Not' _ row) = AreWellFormed row

  -- each that a tree holds is
  pub AreWellFormed : {m : _} → Row_of-Restriction m → Type 0
  AreWellFormed end_of-Restriction = ⊤
  AreWellFormed (more_of-Restriction r rest) = IsWellFormed r × AreWellFormed rest
