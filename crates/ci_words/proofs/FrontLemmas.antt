-- Where a text is cut.
use Rattle.std.proofs.Common.{◌≡◌, ℕ, ◌+◌, ◌-◌, ◌<◌, ◌≤◌, List, [], ◌∷◌, ◌++◌, length, take, drop, refl, sym, ap, ◌∙◌, inl, inr, arith, length-append, length-take-le, le-leb, IsCharBoundary, IsUtf8, chars, encode_utf8, encode_utf8_all}
use Rattle.std.proofs.lemmas.Bool.{cases_lt, lt-leb}
use Rattle.std.proofs.lemmas.List.{take-append-drop}
use Rattle.std.proofs.lemmas.Str.{chars-append, encodes-chars, length-encode, len_utf8_bounds, IsUtf8-take, IsUtf8-drop, IsCharBoundary-past_char}
use Rattle.std.specs.Char.{len_utf8}
use Rattle.ci_words.specs.Front.{chars_within, front_within}

-- the next character has no place beside these
abbrev IsFull : ℕ → List ℕ → List ℕ → Type 0
IsFull most front rest = (c : ℕ) (more : List ℕ) → rest ≡ c ∷ more → most < length (encode_utf8_all front) + len_utf8 c

chars_within-append : (most : ℕ) (front rest : List ℕ) → length (encode_utf8_all front) ≤ most → IsFull most front rest → chars_within most (front ++ rest) ≡ front
chars_within-append most [] [] fits full = refl
chars_within-append most [] (c ∷ rest) fits full = let long : most < len_utf8 c = omega (arith, full c rest refl) in rw (lt-leb (len_utf8 c) most long) refl
chars_within-append most (c ∷ front) rest fits full =
    let sum : length (encode_utf8_all (c ∷ front)) ≡ len_utf8 c + length (encode_utf8_all front) =
    length-append (encode_utf8 c) (encode_utf8_all front) ∙ ap (λ n. n + length (encode_utf8_all front)) (length-encode c) in
    let short : len_utf8 c ≤ most = omega arith in
    rw (le-leb (len_utf8 c) most short)
    (ap (λ cs. c ∷ cs) (chars_within-append (most - len_utf8 c) front rest (omega arith) (λ d more e. omega (arith, full d more e))))

-- the greatest place where a text may be cut within `most` bytes is the end of its front
pub take-last_boundary : (text : List ℕ) (most n : ℕ) → IsUtf8 text → n ≤ most → IsCharBoundary text n → ((i : ℕ) → n < i → i ≤ most → ¬ (IsCharBoundary text i)) → take n text ≡ front_within most text
take-last_boundary text most n utf8 within boundary last =
    let front = chars (take n text) in
    let rest = chars (drop n text) in
    let front_utf8 : IsUtf8 (take n text) = IsUtf8-take text n utf8 boundary in
    let rest_utf8 : IsUtf8 (drop n text) = IsUtf8-drop text n utf8 boundary in
    let same : encode_utf8_all front ≡ take n text = encodes-chars (take n text) front_utf8 in
    let size : length (encode_utf8_all front) ≡ n = ap length same ∙ length-take-le n text boundary.0 in
    let full : IsFull most front rest = λ c more e.
    let some = len_utf8_bounds c in
    let next : drop n text ≡ encode_utf8 c ++ encode_utf8_all more = sym (encodes-chars (drop n text) rest_utf8) ∙ ap encode_utf8_all e in
    elim (cases_lt most (n + len_utf8 c)) [
      | inl past ↦ omega arith
      | inr fits ↦ absurd (last (n + len_utf8 c) (omega arith) fits (IsCharBoundary-past_char text (encode_utf8_all more) n c boundary.0 rest_utf8 next))
    ] in
    let split : chars text ≡ front ++ rest = sym (ap chars (take-append-drop n text)) ∙ chars-append (take n text) (drop n text) front_utf8 in
    sym (ap (λ cs. encode_utf8_all (chars_within most cs)) split ∙ ap encode_utf8_all (chars_within-append most front rest (omega arith) full) ∙ same)
