-- A front of a varint is at most nine bytes, of which each has its top bit set.
use Rattle.std.proofs.Common.{◌≡◌, ◌≢◌, ℕ, zero, suc, ◌+◌, ◌-◌, ◌*◌, ◌/◌, ◌%◌, ◌^◌, ◌<◌, ◌≤◌, List, [], ◌∷◌, ◌++◌, length, refl, ap, sym, ◌∙◌, arith, lit<, inl, inr, true, nat_le, pow-suc, length-append, drop}
use Rattle.std.specs.List.{AllByRecursion, list_all}
use Rattle.std.proofs.lemmas.Bool.{cases_lt, leb-true, le-leb, and_parts, and_from}
use Rattle.ci_base.specs.Varint.{groups, varint}
use Rattle.ci_base.proofs.VarintLemmas.{groups-small, groups-great, groups-last, groups-join}
use Rattle.ci_wire.specs.Stream.{IsVarintFront}
use Rattle.ci_wire.proofs.NumbersLemmas.{AreBytes}

-- bytes with their top bits set
abbrev pub AreHigh : List ℕ → Type 0
AreHigh bytes = AllByRecursion (λ b. (128 ≤ b) × (b < 256)) bytes

-- what such bytes and a last byte of 1 spell
abbrev pub front_number : List ℕ → ℕ
front_number [] = 1
front_number (b ∷ bytes) = front_number bytes * 128 + b % 128

front_some : (bytes : List ℕ) → 0 < front_number bytes
front_some [] = lit< tt
front_some (b ∷ bytes) = omega (arith, front_some bytes)

pow_some : (k : ℕ) → 0 < 128 ^ k
pow_some zero = lit< tt
pow_some (suc k) = rw (pow-suc 128 k) (omega (arith, pow_some k))

front_small : (more : ℕ) (bytes : List ℕ) → length bytes ≤ more → AreHigh bytes → front_number bytes < 2 * 128 ^ more
front_small more [] short high = omega (arith, pow_some more)
front_small zero (b ∷ bytes) short high = absurd (omega arith)
front_small (suc more) (b ∷ bytes) short high =
    let h = front_small more bytes (omega arith) high.1 in
    rw (pow-suc 128 more) (omega (arith, h))

-- the groups of that number are the bytes, and then 1
front_groups : (more : ℕ) (bytes : List ℕ) → length bytes ≤ more → AreHigh bytes → groups more (front_number bytes) ≡ bytes ++ 1 ∷ []
front_groups more [] short high = groups-small more 1 (lit< tt)
front_groups zero (b ∷ bytes) short high = absurd (omega arith)
front_groups (suc more) (b ∷ bytes) short high =
    let n : suc more - 1 ≡ more = omega arith in
    let some : front_number bytes ≢ 0 = λ e. absurd (omega (arith, front_some bytes)) in
    sym (groups-join (suc more) b (front_number bytes) (omega arith) high.0.0 high.0.1 some)
    ∙ ap (λ g. b ∷ g) (ap (λ m. groups m (front_number bytes)) n ∙ front_groups more bytes (omega arith) high.1)

-- one byte isn't a byte and something behind it
one_byte : (n b : ℕ) (bytes rest : List ℕ) → n ∷ [] ≡ b ∷ (bytes ++ rest) → 0 < length rest → ⊥
one_byte n b bytes rest e some = absurd (omega (arith, ap length e, length-append bytes rest))

-- a front of groups has its top bits set
front_high : (more n : ℕ) (bytes rest : List ℕ) → groups more n ≡ bytes ++ rest → 0 < length rest → AreHigh bytes × (length bytes ≤ more)
front_high more n [] rest e some = (tt, omega arith)
front_high zero n (b ∷ bytes) rest e some = absurd (one_byte n b bytes rest (sym (groups-last n) ∙ e) some)
front_high (suc more) n (b ∷ bytes) rest e some =
    elim (cases_lt n 128) [
      | inl small ↦ absurd (one_byte n b bytes rest (sym (groups-small (suc more) n small) ∙ e) some)
      | inr great ↦ (
          let f : (n % 128 + 128) ∷ groups (suc more - 1) (n / 128) ≡ b ∷ (bytes ++ rest) =
          sym (groups-great (suc more) n (omega arith) great) ∙ e in
          let first : n % 128 + 128 ≡ b = cc in
          let k : suc more - 1 ≡ more = omega arith in
          let tail : groups more (n / 128) ≡ bytes ++ rest = sym (ap (λ m. groups m (n / 128)) k) ∙ ap (λ xs. drop 1 xs) f in
          let h = front_high more (n / 128) bytes rest tail some in
          (((omega arith, omega arith), h.0), omega (arith, h.1)))
    ]

-- what the test of the bytes says
AreHigh-all : (bytes : List ℕ) → AreBytes bytes → list_all (λ b. nat_le 128 b) bytes ≡ true → AreHigh bytes
AreHigh-all [] fits test = tt
AreHigh-all (b ∷ bytes) fits test =
    let both = and_parts (nat_le 128 b) (list_all (λ x. nat_le 128 x) bytes) test in
    ((leb-true 128 b both.0, fits 0), AreHigh-all bytes (λ i. fits (suc i)) both.1)

all-AreHigh : (bytes : List ℕ) → AreHigh bytes → list_all (λ b. nat_le 128 b) bytes ≡ true
all-AreHigh [] high = refl
all-AreHigh (b ∷ bytes) high = and_from _ _ (le-leb 128 b high.0.0) (all-AreHigh bytes high.1)

-- the test tells the fronts of varints
pub front_from_test : (bytes : List ℕ) → AreBytes bytes → length bytes < 10 → list_all (λ b. nat_le 128 b) bytes ≡ true → IsVarintFront bytes
unfolding varint
front_from_test bytes fits short test =
    let high = AreHigh-all bytes fits test in
    let small : front_number bytes < 2 * 128 ^ 9 = front_small 9 bytes (omega arith) high in
    record { number = front_number bytes; small = small; rest = 1 ∷ []; more = lit< tt; front = front_groups 9 bytes (omega arith) high }

pub test_from_front : (bytes : List ℕ) → IsVarintFront bytes → (length bytes < 10) × (list_all (λ b. nat_le 128 b) bytes ≡ true)
unfolding varint
test_from_front bytes front =
    let h = front_high 9 front.number bytes front.rest front.front front.more in
    (omega (arith, h.1), all-AreHigh bytes h.0)
