-- The definitions at the trees that the code takes apart.
use Rattle.std.proofs.Common.{◌≡◌, ◌&&◌, ◌||◌, not, List, ℕ, refl, ap, ◌∙◌}
use Rattle.std.specs.List.{list_all, list_any}
use mathlib.Core.Former.{Count}
use Rattle.ci_base.specs.declared.numbers.PropNo.{PropNo}
use Rattle.ci_keys.specs.Entry.{EntryLists}
use Rattle.ci_dialect.specs.declared.restriction.Restriction.{Restriction, Proximity', And', Or', Not', Row_of-Restriction, end_of-Restriction, more_of-Restriction, items-the_row-Restriction, items_hidden-the_row-Restriction-0}
use Rattle.ci_dialect.specs.declared.restriction.Restriction.TheVariants.{Proximity, And, Or, Not}
use Rattle.ci_dialect.specs.Near.{are_near}
use Rattle.ci_dialect.specs.Sat.{sat, sat_all, sat_any}

-- the trees that a tree holds
abbrev pub row_of : Restriction → (m : Count) × Row_of-Restriction m
row_of (Proximity' _ _ row) = (_, row)
row_of (And' _ row) = (_, row)
row_of (Or' _ row) = (_, row)
row_of (Not' _ row) = (_, row)
row_of _ = (_, end_of-Restriction)

module _ (path : List ℕ) (entry : EntryLists) where
  all-row : (m : Count) (row : Row_of-Restriction m) → sat_all row path entry ≡ list_all (λ r. sat r path entry) (items-the_row-Restriction m row)
  all-row m end_of-Restriction = refl
  all-row m (more_of-Restriction r rest) = ap (λ b. sat r path entry && b) (all-row _ rest)

  any-row : (m : Count) (row : Row_of-Restriction m) → sat_any row path entry ≡ list_any (λ r. sat r path entry) (items-the_row-Restriction m row)
  any-row m end_of-Restriction = refl
  any-row m (more_of-Restriction r rest) = ap (λ b. sat r path entry || b) (any-row _ rest)

  pub sat-and : (all : List Restriction) → sat (And all) path entry ≡ list_all (λ r. sat r path entry) all
  sat-and all =
      let row = row_of (And all) in
      all-row row.0 row.1 ∙ ap (list_all (λ r. sat r path entry)) (items_hidden-the_row-Restriction-0 all)

  pub sat-or : (any : List Restriction) → sat (Or any) path entry ≡ list_any (λ r. sat r path entry) any
  sat-or any =
      let row = row_of (Or any) in
      any-row row.0 row.1 ∙ ap (list_any (λ r. sat r path entry)) (items_hidden-the_row-Restriction-0 any)

  pub sat-near : (property : PropNo) (terms : List Restriction) → sat (Proximity property terms) path entry ≡ are_near entry.words terms
  sat-near property terms = ap (are_near entry.words) (items_hidden-the_row-Restriction-0 terms)

pub sat-not : (r : Restriction) (path : List ℕ) (entry : EntryLists) → sat (Not r) path entry ≡ not (sat r path entry)
unfolding Rattle.ci_dialect.specs.declared.restriction.Restriction.TheBlock.hidden-the_row-Restriction-1 denote.Hole.Carrier.hidden
sat-not r path entry = refl
