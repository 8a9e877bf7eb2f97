-- Numbers in a frame: the highest byte first.
use Rattle.std.specs.Prelude.{ℕ, ℤ, List}
use Rattle.std.specs.Int.{w16, w32, w64, to_be_bytes, cast_unsigned}

-- a number below 2^16 in two bytes
unfoldable pub u16_bytes : ℕ → List ℕ
u16_bytes number = to_be_bytes w16 number

-- a number below 2^32 in four bytes
unfoldable pub u32_bytes : ℕ → List ℕ
u32_bytes number = to_be_bytes w32 number

-- a signed number of 64 bits in eight bytes, in two's complement
unfoldable pub i64_bytes : ℤ → List ℕ
i64_bytes number = to_be_bytes w64 (cast_unsigned w64 number)
