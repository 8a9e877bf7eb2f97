-- The documents as the catalogue keeps them: a list in byte order of paths, each with its entry or with room for one.
use Rattle.std.specs.Prelude.{◌≡◌, ◌&&◌, ℕ, Bool, true, List, Option, Some, None, cond, is_some, filter_map}
use Rattle.std.specs.BTreeMap.{is_at}
use Rattle.std.specs.FinMap.{get}
use Rattle.std.specs.Map.{lookup}
use Rattle.std.specs.Option.{option_map}
use Rattle.std.specs.Ordering.{is_eq}
use Rattle.ci_keys.specs.Entry.{EntryLists}
use Rattle.ci_journal.specs.Terms.{path_cmp, Documents}

-- paths with what stands for them
abbrev pub Standings : Type 0
Standings = List (List ℕ × Option EntryLists)

abbrev pub entry_in : Option (Option EntryLists) → Option EntryLists
entry_in None = None
entry_in (Some standing) = standing

-- the path's entry, where it has one
abbrev pub entry_at : Standings → List ℕ → Option EntryLists
entry_at standings path = entry_in (lookup (is_at (path_cmp path)) standings)

-- there is room for the path's entry
abbrev pub has_place : Standings → List ℕ → Bool
has_place standings path = is_some (lookup (is_at (path_cmp path)) standings)

-- every path has the entry that it had, and no room is lost
pub record KeepsEntries (old new : Standings) : Type 0 where
  pub entries : (path : List ℕ) → entry_at new path ≡ entry_at old path
  pub places : (path : List ℕ) → has_place old path ≡ true → has_place new path ≡ true

-- the path has this entry now, every other path the one that it had, and no room is lost
pub record Settles (old new : Standings) (path : List ℕ) (entry : Option EntryLists) : Type 0 where
  pub entries : (other : List ℕ) →
      entry_at new other ≡ cond (is_eq (path_cmp path other)) entry (entry_at old other)
  pub places : (other : List ℕ) → has_place old other ≡ true → has_place new other ≡ true

-- the path has this entry now where the completion counts; otherwise nothing changes
pub record Serves (old new : Standings) (path : List ℕ) (counts : Bool) (entry : EntryLists) : Type 0 where
  pub entries : (other : List ℕ) →
      entry_at new other ≡ cond (counts && is_eq (path_cmp path other)) (Some entry) (entry_at old other)
  pub places : (other : List ℕ) → has_place old other ≡ true → has_place new other ≡ true

-- a path with its entry, where it has one
abbrev pub present_at : List ℕ × Option EntryLists → Option (List ℕ × EntryLists)
present_at standing = option_map (λ entry. (standing.0, entry)) standing.1

-- the documents that have entries
abbrev pub present : Standings → List (List ℕ × EntryLists)
present standings = filter_map present_at standings

-- the standings are those of the map
abbrev pub StandFor : Documents → Standings → Type 0
StandFor documents standings = (path : List ℕ) → get documents path ≡ entry_at standings path
