-- A word of something is something, and short.
use Rattle.std.proofs.Common.{◌≡◌, ℕ, ◌<◌, ◌≤◌, true, List, [], ◌∷◌, ◌++◌, length, refl, ap, subst, filter, arith, length-append, le-leb, IsUtf8, encode_utf8, encode_utf8_all, All}
use Rattle.std.proofs.lemmas.List.Elements.{filter_passes}
use Rattle.std.proofs.lemmas.Str.{encodes-chars, length-encode, length-le-encodes, len_utf8_bounds}
use Rattle.std.specs.Char.{len_utf8}
use Rattle.std.specs.Str.{chars}
use Rattle.unicode_segmentation.specs.Segments.{has_alphanumeric}
use Rattle.caseless.specs.Caseless.{default_case_fold}
use Rattle.caseless.proofs.CaselessLemmas.{default_case_fold-cons, full_fold-none, full_fold-some}
use Rattle.ci_words.specs.Front.{chars_within, front_within}
use Rattle.ci_words.specs.Words.{IsWord, folded}

encode_some : (c : ℕ) (cs : List ℕ) → 0 < length (encode_utf8_all (c ∷ cs))
encode_some c cs = let some = len_utf8_bounds c in omega (arith, length-append (encode_utf8 c) (encode_utf8_all cs), length-encode c)

-- each character has a place within four bytes
chars_within-some : (most c : ℕ) (cs : List ℕ) → 4 ≤ most → 0 < length (encode_utf8_all (chars_within most (c ∷ cs)))
chars_within-some most c cs room =
    let bounds = len_utf8_bounds c in
    let fits : len_utf8 c ≤ most = omega arith in
    rw (le-leb (len_utf8 c) most fits) (encode_some c _)

encode-some : (most : ℕ) (cs : List ℕ) → 4 ≤ most → 0 < length (encode_utf8_all cs) → 0 < length (encode_utf8_all (chars_within most cs))
encode-some most [] room some = some
encode-some most (c ∷ cs) room some = chars_within-some most c cs room

front_within-some : (most : ℕ) (text : List ℕ) → IsUtf8 text → 4 ≤ most → 0 < length text → 0 < length (front_within most text)
front_within-some most text utf8 room some = encode-some most (chars text) room (rw (encodes-chars text utf8) some)

-- a character folds to what the table has, or to itself where the table has nothing
fold_of_one : (c : ℕ) (table fold : List ℕ) → (length table < 1 → fold ≡ c ∷ []) → (1 ≤ length table → fold ≡ table) → 0 < length fold
fold_of_one c [] fold none some = omega (arith, ap length (none (omega arith)))
fold_of_one c (d ∷ table) fold none some = omega (arith, ap length (some (omega arith)))

append-some : (one cs : List ℕ) → 0 < length one → 0 < length (encode_utf8_all (one ++ cs))
append-some one cs some = omega (arith, length-append one cs, length-le-encodes (one ++ cs))

fold-some : (cs : List ℕ) → 0 < length (encode_utf8_all cs) → 0 < length (encode_utf8_all (default_case_fold cs))
fold-some [] some = absurd (omega arith)
fold-some (c ∷ cs) some =
    let one = fold_of_one c _ _ (full_fold-none c _ refl) (full_fold-some c _ refl) in
    rw (default_case_fold-cons c cs) (append-some _ _ one)

folded-some : (text : List ℕ) → IsUtf8 text → 0 < length text → 0 < length (folded text)
folded-some text utf8 some = fold-some (chars text) (rw (encodes-chars text utf8) some)

-- the front of what a text folds to is a word, if the text isn't empty
pub IsWord-front : (text fold front : List ℕ) → IsUtf8 text → IsUtf8 fold → fold ≡ folded text → front ≡ front_within 128 fold → length front ≤ 128 → 0 < length text → IsWord front
IsWord-front text fold front utf8 fold_utf8 same cut short some =
    let filled : 0 < length front = rw cut (front_within-some 128 fold fold_utf8 (omega arith) (rw same (folded-some text utf8 some))) in
    record { filled = filled; short = short }

alphanumeric-some : (text : List ℕ) → has_alphanumeric text ≡ true → 0 < length text
unfolding has_alphanumeric chars
alphanumeric-some [] some = cc
alphanumeric-some (b ∷ text) some = omega arith

-- a piece with a letter or a number isn't empty
pub alphanumeric-first : (pieces rest : List (List ℕ)) (piece : List ℕ) → filter has_alphanumeric pieces ≡ piece ∷ rest → 0 < length piece
alphanumeric-first pieces rest piece first =
    let kept = subst (All (λ x. has_alphanumeric x ≡ true)) first (filter_passes has_alphanumeric pieces) in
    alphanumeric-some piece (kept 0 piece (omega arith))
