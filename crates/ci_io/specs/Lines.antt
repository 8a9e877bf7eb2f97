-- The lines of some bytes: a line feed (10) ends a line, and so does the end of the bytes where some are left.
use Rattle.std.specs.Prelude.{◌≡◌, ◌≢◌, ◌==◌, ◌⊎◌, ℕ, ◌<◌, List, [], ◌∷◌, ◌++◌, Contains, length, take, slice_index, map, if◌then◌else◌}
use Rattle.std.specs.Io.BufRead.{strip_last}

-- one more byte at the front of the first line
abbrev pub onto_first : ℕ → List (List ℕ) → List (List ℕ)
onto_first b [] = (b ∷ []) ∷ []
onto_first b (line ∷ rest) = (b ∷ line) ∷ rest

-- the lines, without their line feeds
abbrev pub raw_lines : List ℕ → List (List ℕ)
raw_lines [] = []
raw_lines (b ∷ bs) = if b == 10 then [] ∷ raw_lines bs else onto_first b (raw_lines bs)

-- the line without a carriage return (13) at its end
abbrev pub without_return : List ℕ → List ℕ
without_return line = strip_last 13 line

-- the lines, without line feeds and the carriage returns before them
abbrev pub lines : List ℕ → List (List ℕ)
lines bytes = map without_return (raw_lines bytes)

-- no line ends within these bytes
abbrev pub HasNoFeed : List ℕ → Type 0
HasNoFeed bytes = ¬ Contains bytes 10

-- raw is the first line of all, and the others are those of the rest: a line feed stands between, or the end
pub record IsFirstLine (raw all rest : List ℕ) : Type 0 where
  pub whole : HasNoFeed raw
  pub first : raw_lines all ≡ raw ∷ raw_lines rest
  pub ended : (all ≡ raw ++ 10 ∷ rest) ⊎ ((all ≡ raw) × (raw ≢ []) × (rest ≡ []))

-- the first line feed of the bytes stands at this place
pub record HasFeedAt (bytes : List ℕ) (place : ℕ) : Type 0 where
  pub within : place < length bytes
  pub feed : slice_index bytes place ≡ 10
  pub first : HasNoFeed (take place bytes)
