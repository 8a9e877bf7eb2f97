-- Lists of noise words.
use Rattle.std.specs.Prelude.{◌≡◌, ◌↔◌, ◌⊎◌, ℕ, ◌+◌, List, [], ◌∷◌, ◌++◌, All, Contains, IsUtf8, codes, length}
use Rattle.std.specs.List.{flat_map}
use Rattle.std.specs.Str.Lines.{lines}
use Rattle.ci_words.specs.Words.{words}

-- a line says nothing, or it is a text of exactly one word
abbrev pub IsNoiseLine : List ℕ → Type 0
IsNoiseLine line = (line ≡ []) ⊎ IsUtf8 line × (length (words line) ≡ 1)

-- the line of this number, counted from 1, is no noise line, and all earlier ones are
pub record IsFirstBad (number : ℕ) (read : List (List ℕ)) : Type 0 where
  pub earlier : List (List ℕ)
  pub line : List ℕ
  pub later : List (List ℕ)
  pub split : read ≡ earlier ++ line ∷ later
  pub good : All IsNoiseLine earlier
  pub bad : ¬ (IsNoiseLine line)
  pub place : number ≡ length earlier + 1

-- the words that the lines name, in order
abbrev pub named_words : List ℕ → List (List ℕ)
named_words bytes = flat_map words (lines bytes)

-- two lists have the same words
abbrev pub SameWords : List (List ℕ) → List (List ℕ) → Type 0
SameWords one other = (word : List ℕ) → Contains one word ↔ Contains other word

-- the list that is used where no other is given
abbrev pub standard_noise : List (List ℕ)
standard_noise =
    codes "a" ∷ codes "an" ∷ codes "and" ∷ codes "are" ∷ codes "as" ∷ codes "at"
    ∷ codes "be" ∷ codes "but" ∷ codes "by" ∷ codes "for" ∷ codes "from" ∷ codes "if"
    ∷ codes "in" ∷ codes "is" ∷ codes "it" ∷ codes "of" ∷ codes "on" ∷ codes "or"
    ∷ codes "that" ∷ codes "the" ∷ codes "this" ∷ codes "to" ∷ codes "was" ∷ codes "with"
    ∷ []
