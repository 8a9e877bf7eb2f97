-- What two words begin with together.
use Rattle.std.proofs.Common.{◌≡◌, ℕ, zero, suc, ◌+◌, ◌≤◌, ◌<◌, ◌%◌, ◌^◌, ◌≢◌, get_or, min, ◌&&◌, ◌||◌, Bool, true, false, eqb, leb, List, [], ◌∷◌, ◌++◌, length, take, drop, Option, Some, None, refl, ap, ◌∙◌, ◌⊎◌, inl, inr, arith}
use Rattle.std.proofs.lemmas.Bool.{eqb-true, and_parts, and_from, leb-true, le-leb, eq-eqb, ne_eqb, cases_lt}
use Rattle.std.proofs.Math.Seq.{drop-nil}
use Rattle.std.proofs.lemmas.List.{take-append-drop}
use Rattle.std.specs.declared.cmp.Ordering.{Ordering}
use Rattle.std.specs.declared.cmp.Ordering.TheVariants.{Less, Equal, Greater}
use Rattle.std.specs.Ordering.{is_lt}
use Rattle.ci_keys.specs.Key.{IsIndexKey, MayHaveWords}
use Rattle.ci_keys.specs.declared.key.Key.{Key}
use Rattle.ci_segment.specs.Segment.{Spot, common, leaning, shared}
use Rattle.ci_segment.specs.SegmentReading.{is_index_key, may_have_words, word_before}

pub bool_cases : (b : Bool) → (b ≡ true) ⊎ (b ≡ false)
bool_cases true = inl refl
bool_cases false = inr refl

pub common_short : (a b : List ℕ) → common a b ≤ length a
common_short [] b = omega arith
common_short (x ∷ xs) [] = omega arith
common_short (x ∷ xs) (y ∷ ys) =
    elim (bool_cases (eqb x y)) [
      | inl same ↦ rw same (omega (arith, common_short xs ys))
      | inr other ↦ rw other (omega arith)
    ]

pub common_within : (a b : List ℕ) → common a b ≤ length b
common_within [] b = omega arith
common_within (x ∷ xs) [] = omega arith
common_within (x ∷ xs) (y ∷ ys) =
    elim (bool_cases (eqb x y)) [
      | inl same ↦ rw same (omega (arith, common_within xs ys))
      | inr other ↦ rw other (omega arith)
    ]

-- a loop over both words
common_nil : (a : List ℕ) → common a [] ≡ 0
common_nil [] = refl
common_nil (x ∷ xs) = refl

pub common_on : (a b : List ℕ) (i : ℕ) → i < length a → i < length b → get_or a i 0 ≡ get_or b i 0 → common (drop i a) (drop i b) ≡ suc (common (drop (suc i) a) (drop (suc i) b))
common_on [] b i in_a in_b same = absurd (omega arith)
common_on (x ∷ xs) [] i in_a in_b same = absurd (omega arith)
common_on (x ∷ xs) (y ∷ ys) zero in_a in_b same = rw (eq-eqb x y same) refl
common_on (x ∷ xs) (y ∷ ys) (suc i) in_a in_b same = common_on xs ys i (omega arith) (omega arith) same

pub common_not : (a b : List ℕ) (i : ℕ) → i < length a → i < length b → get_or a i 0 ≢ get_or b i 0 → common (drop i a) (drop i b) ≡ 0
common_not [] b i in_a in_b other = absurd (omega arith)
common_not (x ∷ xs) [] i in_a in_b other = absurd (omega arith)
common_not (x ∷ xs) (y ∷ ys) zero in_a in_b other = rw (ne_eqb x y other) refl
common_not (x ∷ xs) (y ∷ ys) (suc i) in_a in_b other = common_not xs ys i (omega arith) (omega arith) other

pub common_past : (a b : List ℕ) (i : ℕ) → (length a ≤ i) ⊎ (length b ≤ i) → common (drop i a) (drop i b) ≡ 0
common_past [] b i past = ap (λ xs. common xs (drop i b)) (drop-nil i)
common_past (x ∷ xs) [] i past = ap (common (drop i (x ∷ xs))) (drop-nil i) ∙ common_nil (drop i (x ∷ xs))
common_past (x ∷ xs) (y ∷ ys) zero past =
    elim past [
      | inl none ↦ absurd (omega arith)
      | inr none ↦ absurd (omega arith)
    ]
common_past (x ∷ xs) (y ∷ ys) (suc i) past =
    elim past [
      | inl short ↦ common_past xs ys i (inl (omega arith))
      | inr short ↦ common_past xs ys i (inr (omega arith))
    ]

pub take_common : (a b : List ℕ) → take (common a b) a ≡ take (common a b) b
take_common [] b = refl
take_common (x ∷ xs) [] = refl
take_common (x ∷ xs) (y ∷ ys) =
    elim (bool_cases (eqb x y)) [
      | inl same ↦ rw same (ap (λ z. z ∷ take (common xs ys) xs) (eqb-true x y same) ∙ ap (λ zs. y ∷ zs) (take_common xs ys))
      | inr other ↦ rw other refl
    ]

leaning_short : (before : Option Key) (key : Key) → leaning before key ≤ length (word_before before)
leaning_short None key = omega arith
leaning_short (Some b) key =
    elim (bool_cases (eqb b.property.0 key.property.0)) [
      | inl same ↦ rw same (common_short b.word key.word)
      | inr other ↦ rw other (omega arith)
    ]

pub shared_short : (spot : Spot) (key : Key) → shared spot key ≤ length (word_before spot.before)
shared_short spot key =
    elim (bool_cases (eqb (spot.at % 16) 0)) [
      | inl same ↦ rw same (omega arith)
      | inr other ↦ rw other (leaning_short spot.before key)
    ]

pub leaning_within : (before : Option Key) (key : Key) → leaning before key ≤ length key.word
leaning_within None key = omega arith
leaning_within (Some b) key =
    elim (bool_cases (eqb b.property.0 key.property.0)) [
      | inl same ↦ rw same (common_within b.word key.word)
      | inr other ↦ rw other (omega arith)
    ]

pub shared_within : (spot : Spot) (key : Key) → shared spot key ≤ length key.word
shared_within spot key =
    elim (bool_cases (eqb (spot.at % 16) 0)) [
      | inl same ↦ rw same (omega arith)
      | inr other ↦ rw other (leaning_within spot.before key)
    ]

take_leaning : (before : Option Key) (key : Key) → take (leaning before key) (word_before before) ≡ take (leaning before key) key.word
take_leaning None key = refl
take_leaning (Some b) key =
    elim (bool_cases (eqb b.property.0 key.property.0)) [
      | inl same ↦ rw same (take_common b.word key.word)
      | inr other ↦ rw other refl
    ]

pub take_shared : (spot : Spot) (key : Key) → take (shared spot key) (word_before spot.before) ≡ take (shared spot key) key.word
take_shared spot key =
    elim (bool_cases (eqb (spot.at % 16) 0)) [
      | inl same ↦ rw same refl
      | inr other ↦ rw other (take_leaning spot.before key)
    ]

-- the front of the word before, and the other bytes, are the word
pub joined : (spot : Spot) (key : Key) → take (shared spot key) (word_before spot.before) ++ drop (shared spot key) key.word ≡ key.word
joined spot key =
    ap (λ f. f ++ drop (shared spot key) key.word) (take_shared spot key) ∙ take-append-drop (shared spot key) key.word

-- ---- tests

or_parts : (a b : Bool) → (a || b) ≡ true → (a ≡ true) ⊎ (b ≡ true)
or_parts true b e = inl refl
or_parts false b e = inr e

or_left : (a b : Bool) → a ≡ true → (a || b) ≡ true
or_left true b e = refl
or_left false b e = absurd cc

or_right : (a b : Bool) → b ≡ true → (a || b) ≡ true
or_right true b e = refl
or_right false b e = e

pub words_from_test : (n : ℕ) → may_have_words n ≡ true → MayHaveWords n
words_from_test n e =
    elim (or_parts _ _ e) [
      | inl one ↦ inl (eqb-true n 1 one)
      | inr more ↦ elim (or_parts _ _ more) [
        | inl two ↦ inr (inl (eqb-true n 2 two))
        | inr far ↦ (let both = and_parts _ _ far in inr (inr (leb-true 5 n both.0, leb-true n 9 both.1)))
      ]
    ]

abbrev far : ℕ → Bool
far n = leb 5 n && leb n 9

pub test_from_words : (n : ℕ) → MayHaveWords n → may_have_words n ≡ true
test_from_words n may =
    elim may [
      | inl one ↦ or_left (eqb n 1) (eqb n 2 || far n) (eq-eqb n 1 one)
      | inr more ↦ or_right (eqb n 1) (eqb n 2 || far n) (elim more [
        | inl two ↦ or_left (eqb n 2) (far n) (eq-eqb n 2 two)
        | inr within ↦ or_right (eqb n 2) (far n) (and_from (leb 5 n) (leb n 9) (le-leb 5 n within.0) (le-leb n 9 within.1))
      ])
    ]

pub small_property : (n : ℕ) → MayHaveWords n → n < 2 ^ 16
small_property n may =
    elim may [
      | inl one ↦ omega arith
      | inr more ↦ elim more [
        | inl two ↦ omega arith
        | inr far ↦ omega arith
      ]
    ]

pub key_from_test : (key : Key) → is_index_key key ≡ true → IsIndexKey key
key_from_test key e =
    let both = and_parts _ _ e in
    let size = and_parts _ _ both.1 in
    record { property = words_from_test key.property.0 both.0; some = leb-true 1 (length key.word) size.0; short = leb-true (length key.word) 128 size.1 }

pub test_from_key : (key : Key) → IsIndexKey key → is_index_key key ≡ true
test_from_key key is =
    and_from _ _ (test_from_words key.property.0 is.property) (and_from _ _ (le-leb 1 (length key.word) is.some) (le-leb (length key.word) 128 is.short))

pub less_from_test : (o : Ordering) → is_lt o ≡ true → o ≡ Less
less_from_test Less e = refl
less_from_test Equal e = absurd cc
less_from_test Greater e = absurd cc

-- the shorter of two lists ends
pub common_all : (a b : List ℕ) (m i : ℕ) → m ≡ min (length a) (length b) → i ≡ m → common a b ≡ i + common (drop i a) (drop i b) → m ≡ common a b
common_all a b m i is all so_far =
    let past : (length a ≤ i) ⊎ (length b ≤ i) = elim (cases_lt (length a) (length b)) [
      | inl less ↦ inl (omega (arith, less, is, all))
      | inr more ↦ inr (omega (arith, more, is, all))
    ] in
    let none : common (drop i a) (drop i b) ≡ 0 = common_past a b i past in
    omega (arith, so_far, none, all)
