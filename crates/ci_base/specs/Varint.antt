-- A varint spells a number below 2^64: seven bits a byte, the least first, and every byte but the last has its top
-- bit set. So 0 is 00, 13 is 0d, and 300 is ac 02.
use Rattle.std.specs.Prelude.{◌≡◌, ℕ, zero, suc, ◌+◌, ◌/◌, ◌%◌, ◌^◌, ◌<◌, if◌then◌else◌, nat_lt, List, [], ◌∷◌, ◌++◌}

-- the number's groups of seven bits, with at most so many bytes before the last one
unfoldable pub groups : ℕ → ℕ → List ℕ
groups zero number = number ∷ []
groups (suc more) number =
    if nat_lt number 128 then number ∷ [] else (number % 128 + 128) ∷ groups more (number / 128)

-- the spelling of a number below 2^64, for which ten bytes are enough
unfoldable pub varint : ℕ → List ℕ
varint number = groups 9 number

-- the bytes begin with the spelling of this number, which is below 2^64
pub record BeginsWithVarint (bytes : List ℕ) (number : ℕ) : Type 0 where
  pub small : number < 2 ^ 64
  pub rest : List ℕ
  pub spelled : bytes ≡ varint number ++ rest

-- no number below 2^64 has its groups at the front of the bytes
abbrev pub NoGroups : ℕ → List ℕ → Type 0
NoGroups more bytes = (number : ℕ) (rest : List ℕ) → number < 2 ^ 64 → ¬ (bytes ≡ groups more number ++ rest)
