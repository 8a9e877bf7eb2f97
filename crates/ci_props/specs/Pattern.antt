-- Patterns over the characters of a text.
use Rattle.std.specs.Prelude.{ℕ, ◌==◌, ◌||◌, ◌&&◌, Bool, true, false, List, [], ◌∷◌, if◌then◌else◌}
use Rattle.std.specs.List.{list_any}

-- the ends of a text: the whole, what stands behind its first character, and so on to the empty one
abbrev pub ends : List ℕ → List (List ℕ)
ends [] = [] ∷ []
ends (c ∷ cs) = (c ∷ cs) ∷ ends cs

-- there is a first character, it passes a test, and what stands behind it passes another
abbrev pub splits : (ℕ → Bool) → (List ℕ → Bool) → List ℕ → Bool
splits first behind [] = false
splits first behind (c ∷ cs) = first c && behind cs

-- The whole text matches. A star (42) stands for any characters, so what follows it matches some end
-- of the text; a question mark (63) stands for one character; each other sign stands for itself.
abbrev pub matches : List ℕ → List ℕ → Bool
matches [] [] = true
matches [] (c ∷ cs) = false
matches (sign ∷ pattern) text =
    if sign == 42 then list_any (matches pattern) (ends text)
    else splits (λ c. sign == 63 || sign == c) (matches pattern) text
