-- Which documents satisfy a restriction: those with such a path and such an entry.
use Rattle.std.specs.Prelude.{ℕ, ◌&&◌, ◌||◌, Bool, true, false, not, List}
use Rattle.std.specs.List.{list_any}
use Rattle.ci_keys.specs.Entry.{EntryLists}
use Rattle.ci_paths.specs.Prefix.{stands_under}
use Rattle.ci_dialect.specs.declared.restriction.Restriction.{Restriction, Content, Phrase, Proximity', Property, Pattern, Scope, And', Or', Not', Row_of-Restriction, end_of-Restriction, more_of-Restriction, items-the_row-Restriction}
use Rattle.ci_dialect.specs.Near.{are_near}
use Rattle.ci_dialect.specs.Held.{has_value, is_match, stands_to}
use Rattle.ci_dialect.specs.Places.{has_word, phrase_places}

-- the trees that a tree holds are a row: the operands of And, Or and Proximity, and the one of Not
abbrev mutual
  pub sat : Restriction → List ℕ → EntryLists → Bool
  sat (Content property word prefix) path entry = has_word entry.words property word prefix
  sat (Phrase property slots) path entry = list_any (λ p. true) (phrase_places entry.words property slots)
  sat (Proximity' property _ row) path entry = are_near entry.words (items-the_row-Restriction _ row)
  sat (Property property relation given) path entry = has_value entry.values property (stands_to relation given)
  sat (Pattern property pattern) path entry = has_value entry.values property (is_match pattern)
  sat (Scope prefix) path entry = stands_under prefix path
  sat (And' _ row) path entry = sat_all row path entry
  sat (Or' _ row) path entry = sat_any row path entry
  sat (Not' _ row) path entry = not (sat_one row path entry)

  pub sat_all : {m : _} → Row_of-Restriction m → List ℕ → EntryLists → Bool
  sat_all end_of-Restriction path entry = true
  sat_all (more_of-Restriction r rest) path entry = sat r path entry && sat_all rest path entry

  pub sat_any : {m : _} → Row_of-Restriction m → List ℕ → EntryLists → Bool
  sat_any end_of-Restriction path entry = false
  sat_any (more_of-Restriction r rest) path entry = sat r path entry || sat_any rest path entry

  pub sat_one : {m : _} → Row_of-Restriction m → List ℕ → EntryLists → Bool
  sat_one end_of-Restriction path entry = true
  sat_one (more_of-Restriction r _) path entry = sat r path entry
