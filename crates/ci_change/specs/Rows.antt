-- The rows of paths: each path has its numbers.
use Rattle.std.specs.Prelude.{◌≡◌, ◌<◌, ◌≤◌, ◌||◌, ℕ, Bool, false, nat_le, IsTrue, List, [], length, bytes_eq, unwrap_or, is_some, slice_index_or, if◌then◌else◌}
use Rattle.std.specs.Map.{lookup, keys_of}
use Rattle.ci_change.specs.declared.rows.Numbers.{Numbers}

-- the numbers of a path without a row
abbrev pub none : Numbers
none = record { latest = 0; served = 0; attempts = 0; refused = false; is_out = false }

-- a path's latest notice is set aside: its filter refused it, or it was tried so often
abbrev pub sets_aside : Numbers → ℕ → Bool
sets_aside numbers retries = numbers.refused || nat_le retries numbers.attempts

-- the path has a row
abbrev pub has_row : List (List ℕ × Numbers) → List ℕ → Bool
has_row rows path = is_some (lookup (bytes_eq path) rows)

-- the numbers of a path
abbrev pub numbers_at : List (List ℕ × Numbers) → List ℕ → Numbers
numbers_at rows path = unwrap_or (lookup (bytes_eq path) rows) none

-- the path at a place
abbrev pub path_in : List (List ℕ × Numbers) → ℕ → List ℕ
path_in rows place = slice_index_or (keys_of rows) place []

-- no row is lost or moved, and each path has its numbers
pub record KeepsRows (old new : List (List ℕ × Numbers)) : Type 0 where
  pub grows : length old ≤ length new
  pub paths : (place : ℕ) → place < length old → path_in new place ≡ path_in old place
  pub numbers : (path : List ℕ) → numbers_at new path ≡ numbers_at old path
  pub rows : (path : List ℕ) → IsTrue (has_row old path) → IsTrue (has_row new path)

-- the path has a row with these numbers now, and every other path has its own as before
pub record Puts (old new : List (List ℕ × Numbers)) (path : List ℕ) (put : Numbers) : Type 0 where
  pub numbers : (other : List ℕ) →
      numbers_at new other ≡ (if bytes_eq path other then put else numbers_at old other)
  pub rows : (other : List ℕ) → IsTrue (bytes_eq path other || has_row old other) →
      IsTrue (has_row new other)
