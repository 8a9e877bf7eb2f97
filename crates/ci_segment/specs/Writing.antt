-- What the private functions that write ask of what they are handed.
use Rattle.std.specs.Prelude.{ℕ, ◌<◌, ⊤, Option, Some, None}

-- a number that is above the one before it, where there is one
abbrev pub MayRise : Option ℕ → ℕ → Type 0
MayRise None number = ⊤
MayRise (Some before) number = before < number
