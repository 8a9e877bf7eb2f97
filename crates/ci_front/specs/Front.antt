-- Values at the front of bytes, spelled and read. A reading gives the value and the bytes behind it, or nothing
-- where no value of its kind is spelled there.
use Rattle.std.specs.Prelude.{ℕ, zero, suc, ◌+◌, ◌*◌, ◌%◌, ◌^◌, ℤ, List, [], ◌∷◌, ◌++◌, length, take, drop, Option, Some, None, Bool, true, ◌&&◌, nat_lt, ◌==◌, if◌then◌else◌}
use Rattle.std.specs.Int.{w32, w64, to_be_bytes, from_be_bytes, cast_signed, cast_unsigned}
use Rattle.std.specs.List.{flat_map}
use Rattle.ci_base.specs.Varint.{varint}

-- what a kind of value reads at the front of bytes
abbrev pub Front : Type 0 → Type 0
Front X = List ℕ → Option (X × List ℕ)

-- one reading, and then another that may depend on its value
infixl 10 ◌>>=◌
abbrev pub ◌>>=◌ : {A B : Type 0} → Option A → (A → Option B) → Option B
(Some x) >>= f = f x
None >>= f = None

-- the number whose groups of seven bits stand at the front, with at most so many bytes before the last one
unfoldable pub groups_at : ℕ → Front ℕ
groups_at more [] = None
groups_at zero (b ∷ rest) = Some (b, rest)
groups_at (suc more) (b ∷ rest) =
    if nat_lt b 128 then Some (b, rest)
    else (groups_at more rest >>= λ high. if high.0 == 0 then None else Some (high.0 * 128 + b % 128, high.1))

-- the number whose varint stands at the front
unfoldable pub number_at : Front ℕ
number_at bytes = groups_at 9 bytes >>= λ found. if nat_lt found.0 (2 ^ 64) then Some found else None

-- so many bytes
unfoldable pub bytes_at : ℕ → Front (List ℕ)
bytes_at count bytes = if nat_lt (length bytes) count then None else Some (take count bytes, drop count bytes)

-- bytes behind their count
abbrev pub sized : List ℕ → List ℕ
sized bytes = varint (length bytes) ++ bytes

unfoldable pub sized_at : Front (List ℕ)
sized_at bytes = number_at bytes >>= λ count. bytes_at count.0 count.1

-- a number below 2 ^ 32 in four bytes, the highest first
unfoldable pub u32_at : Front ℕ
u32_at bytes = bytes_at 4 bytes >>= λ four. Some (from_be_bytes w32 four.0, four.1)

-- a signed number of 64 bits in eight bytes, the highest first, in two's complement
unfoldable pub i64_bytes : ℤ → List ℕ
i64_bytes number = to_be_bytes w64 (cast_unsigned w64 number)

unfoldable pub i64_at : Front ℤ
i64_at bytes = bytes_at 8 bytes >>= λ eight. Some (cast_signed w64 (from_be_bytes w64 eight.0), eight.1)

-- so many values, one behind the other
unfoldable pub many_at : {X : Type 0} → Front X → ℕ → Front (List X)
many_at at zero bytes = Some ([], bytes)
many_at at (suc count) bytes = at bytes >>= λ first. many_at at count first.1 >>= λ others. Some (first.0 ∷ others.0, others.1)

-- values behind their count
abbrev pub counted : {X : Type 0} → (X → List ℕ) → List X → List ℕ
counted spelled values = varint (length values) ++ flat_map spelled values

abbrev pub counted_at : {X : Type 0} → Front X → Front (List X)
counted_at at bytes = number_at bytes >>= λ count. many_at at count.0 count.1

-- one value and then another
abbrev pub both_at : {X Y : Type 0} → Front X → Front Y → Front (X × Y)
both_at at_x at_y bytes = at_x bytes >>= λ x. at_y x.1 >>= λ y. Some ((x.0, y.0), y.1)

-- values in another form, of which the good ones alone are read
abbrev pub seen_at : {X Y : Type 0} → (X → Bool) → (X → Y) → Front X → Front Y
seen_at good to at bytes = at bytes >>= λ x. if good x.0 then Some (to x.0, x.1) else None

-- each number is below the next one
unfoldable pub rises : List ℕ → Bool
rises [] = true
rises (x ∷ []) = true
rises (x ∷ y ∷ ys) = nat_lt x y && rises (y ∷ ys)
