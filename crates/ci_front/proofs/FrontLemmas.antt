-- What is read at the front of bytes is spelled there, and what is spelled there is read.
use Rattle.std.proofs.Common.{◌≡◌, ℕ, zero, suc, ◌+◌, ◌-◌, ◌*◌, ◌/◌, ◌%◌, ◌^◌, ◌<◌, ◌≤◌, ℤ, Bool, true, false, cond, ltb, eqb, List, [], ◌∷◌, ◌++◌, length, get_or, take, drop, Option, Some, None, refl, sym, ap, subst, ◌∙◌, append_assoc, arith, inl, inr, Fits, FitsSigned}
use Rattle.std.specs.Int.{w32, w64, to_be_bytes, from_be_bytes, cast_signed, cast_unsigned}
use Rattle.std.proofs.lemmas.Bool.{cases_lt, ltb-true, ltb-false, lt-ltb, le-ltb, eqb-false, ne_eqb}
use Rattle.std.proofs.lemmas.List.{take_at, drop_at, take-append-drop, length-append, length-take, get_or-drop, get_or-take, get_or_past}
use Rattle.std.proofs.lemmas.Nat.{be_bytes_4, be_bytes_8, from_be_bytes-to_be_bytes_4, from_be_bytes-to_be_bytes_8}
use Rattle.std.proofs.lemmas.Int.{of_z-to_z}
use Rattle.std.proofs.Math.Facts.{to_z-of_z, Fits-of_z, sfits_to_z}
use Rattle.ci_base.specs.Varint.{BeginsWithVarint, groups, varint}
use Rattle.ci_base.proofs.VarintLemmas.{groups-small, groups-great, groups-last, groups-join}
use Rattle.ci_front.specs.Front.{Front, ◌>>=◌, groups_at, number_at, bytes_at, sized, sized_at, u32_at, i64_bytes, i64_at}

-- bytes, each below 256
abbrev pub AreBytes : List ℕ → Type 0
AreBytes bytes = (i : ℕ) → get_or bytes i 0 < 256

pub AreBytes-drop : (n : ℕ) (bytes : List ℕ) → AreBytes bytes → AreBytes (drop n bytes)
AreBytes-drop n bytes fits i = rw get_or-drop (fits (n + i))

pub AreBytes-take : (n : ℕ) (bytes : List ℕ) → AreBytes bytes → AreBytes (take n bytes)
AreBytes-take n bytes fits i =
    elim (cases_lt i n) [
      | inl lt ↦ rw (get_or-take n bytes i 0 lt) (fits i)
      | inr le ↦ rw (get_or_past (take n bytes) i 0 (omega (arith, length-take n bytes))) (omega arith)
    ]

pub AreBytes-rest : (front rest bytes : List ℕ) → bytes ≡ front ++ rest → AreBytes bytes → AreBytes rest
AreBytes-rest front rest bytes e fits =
    subst (λ xs. AreBytes xs) (ap (λ xs. drop (length front) xs) e ∙ drop_at front rest (length front) refl) (AreBytes-drop (length front) bytes fits)

-- the value of a step that gives one
pub bind_some : {A B : Type 0} (r : Option A) (f : A → Option B) (y : B) → (r >>= f) ≡ Some y → (x : A) × (r ≡ Some x) × (f x ≡ Some y)
bind_some (Some x) f y e = (x, refl, e)
bind_some None f y e = absurd cc

-- a test that leads on where it fails, or where it holds
pub guard_not : {A : Type 0} (b : Bool) (x y : A) → cond b None (Some x) ≡ Some y → (b ≡ false) × (x ≡ y)
guard_not true x y e = absurd cc
guard_not false x y e = (refl, cc)

pub guard_holds : {A : Type 0} (b : Bool) (x y : A) → cond b (Some x) None ≡ Some y → (b ≡ true) × (x ≡ y)
guard_holds true x y e = (refl, cc)
guard_holds false x y e = absurd cc

abbrev some_of : {A : Type 0} → A → Option A
some_of x = Some x

pub some_is : {A : Type 0} (x y : A) → some_of x ≡ some_of y → x ≡ y
some_is x y e = cc

-- a kind of value is read exactly where it is spelled
pub record IsCode {X : Type 0} (spelled : X → List ℕ) (Fits : X → Type 0) (at : Front X) : Type 0 where
  pub takes : (bytes : List ℕ) (x : X) (rest : List ℕ) → AreBytes bytes → at bytes ≡ Some (x, rest) → Fits x × (bytes ≡ spelled x ++ rest)
  pub again : (x : X) (rest : List ℕ) → Fits x → at (spelled x ++ rest) ≡ Some (x, rest)

-- no spelling begins another
pub one_value : {X : Type 0} (spelled : X → List ℕ) (Fits : X → Type 0) (at : Front X) → IsCode spelled Fits at → (a b : X) (x y : List ℕ) → Fits a → Fits b
    → spelled a ++ x ≡ spelled b ++ y → (a ≡ b) × (x ≡ y)
one_value spelled Fits at code a b x y p q e =
    let same = some_is (a, x) (b, y) (sym (code.again a x p) ∙ ap at e ∙ code.again b y q) in
    (ap (λ v. v.0) same, ap (λ v. v.1) same)

-- ---- varints

groups_takes : (more : ℕ) (bytes : List ℕ) (n : ℕ) (rest : List ℕ) → AreBytes bytes → groups_at more bytes ≡ Some (n, rest) → bytes ≡ groups more n ++ rest
unfolding groups_at
groups_takes more [] n rest fits e = absurd cc
groups_takes zero (b ∷ bytes) n rest fits e =
    subst (λ (v : ℕ × List ℕ). b ∷ bytes ≡ groups zero v.0 ++ v.1) (some_is (b, bytes) (n, rest) e) (ap (λ g. g ++ bytes) (sym (groups-last b)))
groups_takes (suc more) (b ∷ bytes) n rest fits e =
    elim (cases_lt b 128) [
      | inl small ↦ (
          let same = some_is (b, bytes) (n, rest) (rw (lt-ltb b 128 small) at e) in
          subst (λ (v : ℕ × List ℕ). b ∷ bytes ≡ groups (suc more) v.0 ++ v.1) same (ap (λ g. g ++ bytes) (sym (groups-small (suc more) b small))))
      | inr great ↦ (
          let f : (groups_at more bytes >>= λ high. cond (eqb high.0 0) None (Some (high.0 * 128 + b % 128, high.1))) ≡ Some (n, rest) = rw (le-ltb b 128 great) at e in
          let step = bind_some (groups_at more bytes) (λ high. cond (eqb high.0 0) None (Some (high.0 * 128 + b % 128, high.1))) (n, rest) f in
          let last = guard_not (eqb step.0.0 0) (step.0.0 * 128 + b % 128, step.0.1) (n, rest) step.2 in
          let high = groups_takes more bytes step.0.0 step.0.1 (λ i. fits (suc i)) step.1 in
          let k : suc more - 1 ≡ more = omega arith in
          let joined : b ∷ groups more step.0.0 ≡ groups (suc more) (step.0.0 * 128 + b % 128) =
          rw k at (groups-join (suc more) b step.0.0 (omega arith) great (fits 0) (eqb-false step.0.0 0 last.0)) in
          let whole : b ∷ bytes ≡ groups (suc more) (step.0.0 * 128 + b % 128) ++ step.0.1 = ap (λ xs. b ∷ xs) high ∙ ap (λ g. g ++ step.0.1) joined in
          subst (λ (v : ℕ × List ℕ). b ∷ bytes ≡ groups (suc more) v.0 ++ v.1) last.1 whole)
    ]

groups_again : (more n : ℕ) (rest : List ℕ) → groups_at more (groups more n ++ rest) ≡ Some (n, rest)
unfolding groups_at
groups_again zero n rest = ap (λ g. groups_at zero (g ++ rest)) (groups-last n)
groups_again (suc more) n rest =
    elim (cases_lt n 128) [
      | inl small ↦ (ap (λ g. groups_at (suc more) (g ++ rest)) (groups-small (suc more) n small) ∙ rw (lt-ltb n 128 small) refl)
      | inr great ↦ (
          let k : suc more - 1 ≡ more = omega arith in
          let g : groups (suc more) n ≡ (n % 128 + 128) ∷ groups more (n / 128) = rw k at (groups-great (suc more) n (omega arith) great) in
          let top : ltb (n % 128 + 128) 128 ≡ false = le-ltb (n % 128 + 128) 128 (omega arith) in
          let isnt : eqb (n / 128) 0 ≡ false = ne_eqb (n / 128) 0 (λ e. absurd (omega arith)) in
          let whole : n / 128 * 128 + (n % 128 + 128) % 128 ≡ n = omega arith in
          ap (λ g. groups_at (suc more) (g ++ rest)) g ∙ rw (top, groups_again more (n / 128) rest, isnt, whole) refl)
    ]

number_takes : (bytes : List ℕ) (n : ℕ) (rest : List ℕ) → AreBytes bytes → number_at bytes ≡ Some (n, rest) → (n < 2 ^ 64) × (bytes ≡ varint n ++ rest)
unfolding number_at varint
number_takes bytes n rest fits e =
    let step = bind_some (groups_at 9 bytes) (λ found. cond (ltb found.0 (2 ^ 64)) (Some found) None) (n, rest) e in
    let last = guard_holds (ltb step.0.0 (2 ^ 64)) step.0 (n, rest) step.2 in
    let front = groups_takes 9 bytes step.0.0 step.0.1 fits step.1 in
    subst (λ (v : ℕ × List ℕ). (v.0 < 2 ^ 64) × (bytes ≡ groups 9 v.0 ++ v.1)) last.1 (ltb-true _ _ last.0, front)

number_again : (n : ℕ) (rest : List ℕ) → n < 2 ^ 64 → number_at (varint n ++ rest) ≡ Some (n, rest)
unfolding number_at varint
number_again n rest small = rw (groups_again 9 n rest, lt-ltb n (2 ^ 64) small) refl

pub number_code : IsCode varint (λ n. n < 2 ^ 64) number_at
number_code = record { takes = number_takes; again = number_again }

-- what is found at the front is read there
pub number_found : (bytes : List ℕ) (n count : ℕ) → BeginsWithVarint bytes n → count ≡ length (varint n) → number_at bytes ≡ Some (n, drop count bytes)
number_found bytes n count begins size =
    let behind : drop count bytes ≡ begins.rest = ap (λ b. drop count b) begins.spelled ∙ drop_at (varint n) begins.rest count (sym size) in
    ap number_at begins.spelled ∙ number_again n begins.rest begins.small ∙ ap (λ r. Some (n, r)) (sym behind)

some_none : {A : Type 0} (r : Option A) → ((x : A) → r ≡ Some x → ⊥) → r ≡ None
some_none None never = refl
some_none (Some x) never = absurd (never x refl)

pub number_lacks : (bytes : List ℕ) → AreBytes bytes → ((n : ℕ) → BeginsWithVarint bytes n → ⊥) → number_at bytes ≡ None
number_lacks bytes fits none =
    some_none (number_at bytes) (λ v e. let t = number_takes bytes v.0 v.1 fits e in none v.0 (record { small = t.0; rest = v.1; spelled = t.1 }))

-- ---- bytes behind their count

pub bytes_takes : (count : ℕ) (bytes front rest : List ℕ) → bytes_at count bytes ≡ Some (front, rest) → (length front ≡ count) × (bytes ≡ front ++ rest)
unfolding bytes_at
bytes_takes count bytes front rest e =
    let g = guard_not (ltb (length bytes) count) (take count bytes, drop count bytes) (front, rest) e in
    let long : count ≤ length bytes = ltb-false _ _ g.0 in
    subst (λ (v : List ℕ × List ℕ). (length v.0 ≡ count) × (bytes ≡ v.0 ++ v.1)) g.1 (omega (arith, length-take count bytes), sym (take-append-drop count bytes))

pub bytes_again : (front rest : List ℕ) (count : ℕ) → length front ≡ count → bytes_at count (front ++ rest) ≡ Some (front, rest)
unfolding bytes_at
bytes_again front rest count size =
    let long : ltb (length (front ++ rest)) count ≡ false = le-ltb _ _ (omega (arith, length-append front rest)) in
    rw (long, take_at front rest count size, drop_at front rest count size) refl

sized_takes : (bytes text rest : List ℕ) → AreBytes bytes → sized_at bytes ≡ Some (text, rest) → (length text < 2 ^ 64) × (bytes ≡ sized text ++ rest)
unfolding sized_at
sized_takes bytes text rest fits e =
    let step = bind_some (number_at bytes) (λ count. bytes_at count.0 count.1) (text, rest) e in
    let count = number_takes bytes step.0.0 step.0.1 fits step.1 in
    let front = bytes_takes step.0.0 step.0.1 text rest step.2 in
    let whole : bytes ≡ varint (length text) ++ (text ++ rest) = count.1 ∙ ap (λ r. varint step.0.0 ++ r) front.1 ∙ ap (λ n. varint n ++ (text ++ rest)) (sym front.0) in
    (omega (arith, count.0, front.0), whole ∙ sym (append_assoc (varint (length text)) text rest))

sized_again : (text rest : List ℕ) → length text < 2 ^ 64 → sized_at (sized text ++ rest) ≡ Some (text, rest)
unfolding sized_at
sized_again text rest small =
    ap sized_at (append_assoc (varint (length text)) text rest)
    ∙ rw (number_again (length text) (text ++ rest) small, bytes_again text rest (length text) refl) refl

pub sized_code : IsCode sized (λ text. length text < 2 ^ 64) sized_at
sized_code = record { takes = sized_takes; again = sized_again }

-- ---- numbers of four and of eight bytes

u32_takes : (bytes : List ℕ) (n : ℕ) (rest : List ℕ) → AreBytes bytes → u32_at bytes ≡ Some (n, rest) → (n < 2 ^ 32) × (bytes ≡ to_be_bytes w32 n ++ rest)
unfolding u32_at
u32_takes bytes n rest fits e =
    let step = bind_some (bytes_at 4 bytes) (λ four. Some (from_be_bytes w32 four.0, four.1)) (n, rest) e in
    let front = bytes_takes 4 bytes step.0.0 step.0.1 step.1 in
    let four = step.0.0 in
    let are : AreBytes four = subst (λ xs. AreBytes xs) (ap (λ xs. take 4 xs) front.1 ∙ take_at four step.0.1 4 front.0) (AreBytes-take 4 bytes fits) in
    let back : to_be_bytes w32 (from_be_bytes w32 four) ≡ four = be_bytes_4 four (from_be_bytes w32 four) front.0 are refl in
    let small : from_be_bytes w32 four < 2 ^ 32 = omega (arith, are 0, are 1, are 2, are 3) in
    let whole : bytes ≡ to_be_bytes w32 (from_be_bytes w32 four) ++ step.0.1 = front.1 ∙ ap (λ f. f ++ step.0.1) (sym back) in
    subst (λ (v : ℕ × List ℕ). (v.0 < 2 ^ 32) × (bytes ≡ to_be_bytes w32 v.0 ++ v.1)) (some_is _ (n, rest) step.2) (small, whole)

u32_again : (n : ℕ) (rest : List ℕ) → n < 2 ^ 32 → u32_at (to_be_bytes w32 n ++ rest) ≡ Some (n, rest)
unfolding u32_at
u32_again n rest small = rw (bytes_again (to_be_bytes w32 n) rest 4 refl, from_be_bytes-to_be_bytes_4 n small) refl

pub u32_code : IsCode (to_be_bytes w32) (λ n. n < 2 ^ 32) u32_at
u32_code = record { takes = u32_takes; again = u32_again }

signed_fits : (u : ℕ) → u < 2 ^ 64 → FitsSigned w64 (cast_signed w64 u)
signed_fits u small = let fits : Fits w64 u = omega (arith, small) in sfits_to_z fits

i64_takes : (bytes : List ℕ) (z : ℤ) (rest : List ℕ) → AreBytes bytes → i64_at bytes ≡ Some (z, rest) → FitsSigned w64 z × (bytes ≡ i64_bytes z ++ rest)
unfolding i64_at i64_bytes
i64_takes bytes z rest fits e =
    let step = bind_some (bytes_at 8 bytes) (λ eight. Some (cast_signed w64 (from_be_bytes w64 eight.0), eight.1)) (z, rest) e in
    let front = bytes_takes 8 bytes step.0.0 step.0.1 step.1 in
    let eight = step.0.0 in
    let u = from_be_bytes w64 eight in
    let are : AreBytes eight = subst (λ xs. AreBytes xs) (ap (λ xs. take 8 xs) front.1 ∙ take_at eight step.0.1 8 front.0) (AreBytes-take 8 bytes fits) in
    let small : u < 2 ^ 64 = omega (arith, are 0, are 1, are 2, are 3, are 4, are 5, are 6, are 7) in
    let g : cast_unsigned w64 (cast_signed w64 u) ≡ u = of_z-to_z w64 u small in
    let back : to_be_bytes w64 (cast_unsigned w64 (cast_signed w64 u)) ≡ eight = ap (to_be_bytes w64) g ∙ be_bytes_8 eight u front.0 are refl in
    let whole : bytes ≡ to_be_bytes w64 (cast_unsigned w64 (cast_signed w64 u)) ++ step.0.1 = front.1 ∙ ap (λ f. f ++ step.0.1) (sym back) in
    let in_range : FitsSigned w64 (cast_signed w64 u) = signed_fits u small in
    subst (λ (v : ℤ × List ℕ). FitsSigned w64 v.0 × (bytes ≡ to_be_bytes w64 (cast_unsigned w64 v.0) ++ v.1)) (some_is _ (z, rest) step.2) (in_range, whole)

i64_again : (z : ℤ) (rest : List ℕ) → FitsSigned w64 z → i64_at (i64_bytes z ++ rest) ≡ Some (z, rest)
unfolding i64_at i64_bytes
i64_again z rest fits =
    rw (bytes_again (to_be_bytes w64 (cast_unsigned w64 z)) rest 8 refl, from_be_bytes-to_be_bytes_8 (cast_unsigned w64 z) (omega (arith, Fits-of_z fits)), to_z-of_z fits) refl

pub i64_code : IsCode i64_bytes (λ z. FitsSigned w64 z) i64_at
i64_code = record { takes = i64_takes; again = i64_again }
