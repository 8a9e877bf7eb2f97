-- The first line of some bytes.
use Rattle.std.proofs.Common.{◌≡◌, ◌==◌, ℕ, ◌+◌, ◌-◌, ◌<◌, ◌≤◌, Bool, List, [], ◌∷◌, length, take, drop, Option, Some, None, cond, refl, ap, ◌∙◌, arith, nat_lt}
use Rattle.std.specs.List.{slice_split, position_or_len}
use Rattle.std.specs.Str.Lines.{lines, lines_of_parts, strip_carriage_return}
use Rattle.std.proofs.lemmas.Bool.Decides.{nat_tests}
use Rattle.std.proofs.Math.Seq.{take-length}
use Rattle.std.proofs.lemmas.List.{length-drop}
use Rattle.std.proofs.lemmas.List.Splits.{slice_split_first, slice_split_none, length-slice_split}
use Rattle.std.proofs.lemmas.List.Sums.{fails_before_first}

-- a byte that ends a line
abbrev pub is_feed : ℕ → Bool
is_feed byte = byte == 10

-- what `position` answers of a place p among n
pub found_at : (p n : ℕ) (r : Option ℕ) (at : ℕ) → r ≡ cond (nat_lt p n) (Some p) None → r ≡ Some at → (at ≡ p) × (at < n)
found_at p n r at answer some = (grind (arith, nat_tests), grind (arith, nat_tests))

pub found_none : (p n : ℕ) (r : Option ℕ) → r ≡ cond (nat_lt p n) (Some p) None → r ≡ None → n ≤ p
found_none p n r answer none = grind (arith, nat_tests)

-- the parts behind the first line are parts of their own
lines_of_parts-more : (x : List ℕ) (parts : List (List ℕ)) → 0 < length parts → lines_of_parts (x ∷ parts) ≡ strip_carriage_return x ∷ lines_of_parts parts
lines_of_parts-more x [] some = absurd (omega arith)
lines_of_parts-more x (y ∷ more) some = refl

-- a line that a line feed ends, and those behind it
pub lines-feed : (bytes : List ℕ) (at : ℕ) → at ≡ position_or_len is_feed bytes → at < length bytes → lines bytes ≡ strip_carriage_return (take at bytes) ∷ lines (drop (at + 1) bytes)
lines-feed bytes at is within =
    let split = slice_split_first is_feed bytes 0 (rw (← is) within) in
    let some : 0 < length (slice_split is_feed (drop (position_or_len is_feed bytes + 1) bytes)) = omega (arith, length-slice_split is_feed (drop (position_or_len is_feed bytes + 1) bytes)) in
    rw is (ap lines_of_parts split ∙ lines_of_parts-more _ _ some)

-- a part behind which nothing stands is a line, if it has bytes
lines_of_parts-last : (x : List ℕ) → 0 < length x → lines_of_parts (x ∷ []) ≡ x ∷ []
lines_of_parts-last x some = grind (arith, nat_tests)

-- the rest of a slice, as a range gives it
pub rest_of : (bytes : List ℕ) (n : ℕ) → take (length bytes - n) (drop n bytes) ≡ drop n bytes
rest_of bytes n = rw (← length-drop n bytes) (take-length (drop n bytes))

-- the last line, which nothing ends
pub lines-rest : (bytes : List ℕ) → length bytes ≤ position_or_len is_feed bytes → 0 < length bytes → lines bytes ≡ bytes ∷ []
lines-rest bytes none some =
    let split = slice_split_none is_feed bytes (λ k d within. fails_before_first is_feed bytes k d (omega arith)) in
    ap lines_of_parts split ∙ lines_of_parts-last bytes some
