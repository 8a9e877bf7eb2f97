-- Where a pattern stops, compared with a text from its first character on.
use Rattle.std.specs.Prelude.{◌≡◌, ℕ, ◌<◌, ◌≤◌, true, false, List, ◌∷◌, chars, drop, length}
use Rattle.ci_props.specs.declared.pattern.Stop.{Stop}
use Rattle.ci_props.specs.declared.pattern.Stop.TheVariants.{Whole, Star, Short, Apart}
use Rattle.ci_props.specs.Pattern.{matches}

-- the rest of a pattern begins with a star, behind which stands `pattern`, and wants to match `rest`
pub record StopsAtStar (whole text pattern rest : List ℕ) : Type 0 where
  pub same : matches (chars whole) (chars text) ≡ matches (42 ∷ chars pattern) (chars rest)
  -- at a later place of the text it stops with less of it
  pub later : (n : ℕ) → matches (chars whole) (drop n (chars text)) ≡ true
      → matches (42 ∷ chars pattern) (drop n (chars rest)) ≡ true
  pub shorter : length pattern < length whole
  pub within : length rest ≤ length text

abbrev pub Stops : List ℕ → List ℕ → Stop → Type 0
Stops pattern text Whole = matches (chars pattern) (chars text) ≡ true
Stops pattern text (Star behind rest) = StopsAtStar pattern text behind.now rest.now
-- no end of the text matches
Stops pattern text Short = (n : ℕ) → matches (chars pattern) (drop n (chars text)) ≡ false
Stops pattern text Apart = matches (chars pattern) (chars text) ≡ false
