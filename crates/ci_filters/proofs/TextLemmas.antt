-- The text of a file's bytes.
use Rattle.std.proofs.Common.{◌≡◌, ℕ, ◌≤◌, ◌&&◌, true, false, eqb, List, length, take, drop, Option, Some, None, IfSome, IsUtf8, is_none, refl, sym, arith, inl, inr, length-take}
use Rattle.std.proofs.lemmas.Bool.{cases_Bool, cond_both}
use Rattle.std.proofs.lemmas.Str.{is_utf8-from_IsUtf8, IsUtf8-from_is_utf8}
use Rattle.std.specs.Str.{is_utf8}
use Rattle.std.specs.Str.Lossy.{utf8_valid_len, utf8_error_len}
use Rattle.ci_filters.specs.Texts.{ends_inside, file_bytes, text_of}

-- UTF-8 is its own text
pub text_of-whole : (bytes : List ℕ) → IsUtf8 bytes → text_of bytes ≡ Some bytes
unfolding text_of
text_of-whole bytes utf8 = rw (is_utf8-from_IsUtf8 bytes utf8) refl

not_utf8 : (bytes : List ℕ) → ¬ IsUtf8 bytes → is_utf8 bytes ≡ false
not_utf8 bytes none = elim (cases_Bool (is_utf8 bytes)) [
  | inl whole ↦ absurd (none (IsUtf8-from_is_utf8 bytes whole))
  | inr other ↦ other
]

-- a character that the end cuts off is dropped
pub text_of-cut : (bytes : List ℕ) → ¬ IsUtf8 bytes → length bytes ≡ file_bytes → ends_inside bytes ≡ true
    → text_of bytes ≡ Some (take (utf8_valid_len bytes) bytes)
unfolding text_of
text_of-cut bytes none full cut = rw (not_utf8 bytes none, full, cut) refl

-- other bytes have no text
pub text_of-none : (bytes : List ℕ) → ¬ IsUtf8 bytes → (eqb (length bytes) file_bytes && ends_inside bytes) ≡ false
    → text_of bytes ≡ None
unfolding text_of
text_of-none bytes none other = rw (not_utf8 bytes none, other) refl

-- a text has no more bytes than the file
pub text_of-within : (bytes : List ℕ) → IfSome (text_of bytes) (λ text. length text ≤ length bytes)
unfolding text_of
text_of-within bytes =
    let Within : Option (List ℕ) → Type 0 = λ found. IfSome found (λ text. length text ≤ length bytes) in
    cond_both (is_utf8 bytes) _ _ Within (λ _. omega arith)
    (λ _. cond_both (eqb (length bytes) file_bytes && ends_inside bytes) _ _ Within
    (λ _. omega (arith, length-take (utf8_valid_len bytes) bytes)) (λ _. tt))

-- how the bytes end, by what a reader of UTF-8 tells
pub ends_inside-is : (bytes : List ℕ) (at : ℕ) (found : Option ℕ) → at ≡ utf8_valid_len bytes → found ≡ utf8_error_len (drop at bytes)
    → ends_inside bytes ≡ is_none found
ends_inside-is bytes at found valid fault = sym (rw (fault, valid) refl)
