-- Documents are known by numbers: a path has one number at most, and a number one path.
use Rattle.std.specs.Prelude.{◌≡◌, ◌≢◌, ◌==◌, ◌<◌, ◌≤◌, ◌++◌, ◌⊎◌, ℕ, List, [], ◌∷◌, Option, None, bytes_eq, find, length, IsNone, IsSome, IsSomeAnd, option_map}
use Rattle.std.specs.Map.{lookup}
use Rattle.ci_base.specs.declared.numbers.DocNo.{DocNo}

-- the paths that are numbered, each with its number, in the order in which they came; and how many there may be
pub record Numbering : Type 0 where
  pub numbered : List (List ℕ × DocNo)
  pub limit : ℕ

-- the number of a path
abbrev pub number_of : List (List ℕ × DocNo) → List ℕ → Option DocNo
number_of numbered path = lookup (bytes_eq path) numbered

-- the path that has a number
abbrev pub path_of : List (List ℕ × DocNo) → ℕ → Option (List ℕ)
path_of numbered number = option_map (λ e. e.0) (find (λ e. e.1.0 == number) numbered)

-- no path has the number
abbrev pub IsFree : List (List ℕ × DocNo) → ℕ → Type 0
IsFree numbered number = IsNone (path_of numbered number)

-- no path has the number, and every lesser number is a path's
pub record IsLeastFree (numbered : List (List ℕ × DocNo)) (number : ℕ) : Type 0 where
  pub free : IsFree numbered number
  pub least : (lesser : ℕ) → lesser < number → IsSome (path_of numbered lesser)

-- a path is numbered, after all others
abbrev pub with_path : Numbering → List ℕ → DocNo → Numbering
with_path n path doc = record n { numbered = n.numbered ++ (path, doc) ∷ [] }

-- a path has no number, and can't get one
abbrev pub IsFullFor : Numbering → List ℕ → Type 0
IsFullFor n path = (number_of n.numbered path ≡ None) × (n.limit ≤ length n.numbered)

-- the path has another number, or the number another path
abbrev pub Clashes : List (List ℕ × DocNo) → List ℕ → DocNo → Type 0
Clashes numbered path doc =
    IsSomeAnd (number_of numbered path) (λ other. other ≢ doc)
    ⊎ IsSomeAnd (path_of numbered doc.0) (λ other. other ≢ path)
