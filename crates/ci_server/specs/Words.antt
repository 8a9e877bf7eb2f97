-- The command line.
use Rattle.std.specs.Prelude.{◌&&◌, ℕ, Bool, false, List, [], ◌∷◌, codes, bytes_eq}

-- three words: the program's name, which isn't looked at, the command `steps`, and the scope `/`
abbrev pub are_words : List (List ℕ) → Bool
are_words [] = false
are_words (name ∷ []) = false
are_words (name ∷ command ∷ []) = false
are_words (name ∷ command ∷ scope ∷ []) = bytes_eq command (codes "steps") && bytes_eq scope (codes "/")
are_words (name ∷ command ∷ scope ∷ more ∷ rest) = false
