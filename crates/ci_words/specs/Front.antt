-- The front of a text: its first characters, as many as fit.
use Rattle.std.specs.Prelude.{ℕ, ◌-◌, nat_le, List, [], ◌∷◌, chars, encode_utf8_all, if◌then◌else◌}
use Rattle.std.specs.Char.{len_utf8}

-- the first characters, as many as have at most `most` bytes together
abbrev pub chars_within : ℕ → List ℕ → List ℕ
chars_within most [] = []
chars_within most (c ∷ cs) = if nat_le (len_utf8 c) most then c ∷ chars_within (most - len_utf8 c) cs else []

-- the longest front of a text that has whole characters and at most `most` bytes
abbrev pub front_within : ℕ → List ℕ → List ℕ
front_within most text = encode_utf8_all (chars_within most (chars text))
