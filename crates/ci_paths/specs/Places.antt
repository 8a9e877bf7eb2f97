-- How the numbers of paths are kept: beside the numbered paths stands, for each number, the place of its path.
use Rattle.std.specs.Prelude.{◌≡◌, ◌<◌, ◌^◌, ℕ, List, Option, None, Some, filter, length, is_some, slice_get, slice_index_or}
use Rattle.std.specs.List.{prefix_len}
use Rattle.std.specs.BTreeMap.{BTreeMap, get}
use Rattle.std.specs.Cmp.Lexicographic.{slice_cmp}
use Rattle.std.specs.Ordering.{nat_cmp}
use Rattle.ci_base.specs.declared.numbers.DocNo.{DocNo}
use Rattle.ci_paths.specs.Numbering.{number_of}

-- the place of the path that has a number
abbrev pub place_of : List (Option ℕ) → ℕ → Option ℕ
place_of places number = slice_index_or places number None

-- the least number without a place: as many numbers as are below it have one
abbrev pub least_empty : List (Option ℕ) → ℕ
least_empty places = prefix_len is_some places

-- the map has at each path the number that the list has
abbrev pub IsSorted : List (List ℕ × DocNo) → BTreeMap (List ℕ) DocNo → Type 0
IsSorted numbered map = (path : List ℕ) → get (slice_cmp nat_cmp) map path ≡ number_of numbered path

-- each path has its own number, and each number its own place
pub record IsIndexed (numbered : List (List ℕ × DocNo)) (places : List (Option ℕ)) : Type 0 where
  pub paths : (at : ℕ) (e : List ℕ × DocNo) → slice_get numbered at ≡ Some e → number_of numbered e.0 ≡ Some e.1
  pub listed : (at : ℕ) (e : List ℕ × DocNo) → slice_get numbered at ≡ Some e → place_of places e.1.0 ≡ Some at
  pub kept : (number at : ℕ) → place_of places number ≡ Some at
      → (path : List ℕ) × (slice_get numbered at ≡ Some (path, record { 0 = number }))
  pub count : length (filter is_some places) ≡ length numbered
  pub bound : length places < 2 ^ 32
