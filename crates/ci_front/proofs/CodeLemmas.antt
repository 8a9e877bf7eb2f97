-- Codes made of codes.
use Rattle.std.proofs.Common.{◌≡◌, ℕ, zero, suc, ◌+◌, ◌^◌, ◌<◌, Bool, true, cond, List, [], ◌∷◌, ◌++◌, ◌-◌, ◌≤◌, length, Option, Some, None, refl, sym, ap, subst, ◌∙◌, append_assoc, append-nil, arith}
use Rattle.std.specs.List.{flat_map, AllByRecursion}
use Rattle.std.proofs.lemmas.List.Concat.{flat_map-cons}
use Rattle.ci_base.specs.Varint.{varint}
use Rattle.ci_front.specs.Front.{Front, ◌>>=◌, number_at, many_at, both_at, counted, counted_at, seen_at}
use Rattle.ci_front.proofs.FrontLemmas.{AreBytes, AreBytes-rest, IsCode, bind_some, guard_holds, some_is, number_code}

both_takes : {X Y : Type 0} (sx : X → List ℕ) (fx : X → Type 0) (ax : Front X) (sy : Y → List ℕ) (fy : Y → Type 0) (ay : Front Y) → IsCode sx fx ax → IsCode sy fy ay
    → (bytes : List ℕ) (p : X × Y) (rest : List ℕ) → AreBytes bytes → both_at ax ay bytes ≡ Some (p, rest) → (fx p.0 × fy p.1) × (bytes ≡ (sx p.0 ++ sy p.1) ++ rest)
both_takes sx fx ax sy fy ay cx cy bytes p rest fits e =
    let first = bind_some (ax bytes) (λ x. ay x.1 >>= λ y. Some ((x.0, y.0), y.1)) (p, rest) e in
    let second = bind_some (ay first.0.1) (λ y. Some ((first.0.0, y.0), y.1)) (p, rest) first.2 in
    let tx = cx.takes bytes first.0.0 first.0.1 fits first.1 in
    let ty = cy.takes first.0.1 second.0.0 second.0.1 (AreBytes-rest (sx first.0.0) first.0.1 bytes tx.1 fits) second.1 in
    let whole : bytes ≡ (sx first.0.0 ++ sy second.0.0) ++ second.0.1 =
    tx.1 ∙ ap (λ r. sx first.0.0 ++ r) ty.1 ∙ sym (append_assoc (sx first.0.0) (sy second.0.0) second.0.1) in
    subst (λ v. (fx v.0.0 × fy v.0.1) × (bytes ≡ (sx v.0.0 ++ sy v.0.1) ++ v.1)) (some_is _ (p, rest) second.2) ((tx.0, ty.0), whole)

both_again : {X Y : Type 0} (sx : X → List ℕ) (fx : X → Type 0) (ax : Front X) (sy : Y → List ℕ) (fy : Y → Type 0) (ay : Front Y) → IsCode sx fx ax → IsCode sy fy ay
    → (p : X × Y) (rest : List ℕ) → fx p.0 × fy p.1 → both_at ax ay ((sx p.0 ++ sy p.1) ++ rest) ≡ Some (p, rest)
both_again sx fx ax sy fy ay cx cy p rest fits =
    ap (both_at ax ay) (append_assoc (sx p.0) (sy p.1) rest)
    ∙ rw (cx.again p.0 (sy p.1 ++ rest) fits.0, cy.again p.1 rest fits.1) refl

pub both_code : {X Y : Type 0} (sx : X → List ℕ) (fx : X → Type 0) (ax : Front X) (sy : Y → List ℕ) (fy : Y → Type 0) (ay : Front Y) → IsCode sx fx ax → IsCode sy fy ay
    → IsCode (λ p. sx p.0 ++ sy p.1) (λ p. fx p.0 × fy p.1) (both_at ax ay)
both_code sx fx ax sy fy ay cx cy = record {
  takes = both_takes sx fx ax sy fy ay cx cy;
  again = both_again sx fx ax sy fy ay cx cy;
}

-- what leads from the one form to the other and back
pub record IsSeen {X Y : Type 0} (good : X → Bool) (to : X → Y) (back : Y → X) (fx : X → Type 0) (fy : Y → Type 0) : Type 0 where
  pub there : (x : X) → fx x → good x ≡ true → fy (to x) × (back (to x) ≡ x)
  pub here : (y : Y) → fy y → fx (back y) × (good (back y) ≡ true) × (to (back y) ≡ y)

seen_takes : {X Y : Type 0} (good : X → Bool) (to : X → Y) (back : Y → X) (sx : X → List ℕ) (fx : X → Type 0) (fy : Y → Type 0) (at : Front X) → IsSeen good to back fx fy → IsCode sx fx at
    → (bytes : List ℕ) (y : Y) (rest : List ℕ) → AreBytes bytes → seen_at good to at bytes ≡ Some (y, rest) → fy y × (bytes ≡ sx (back y) ++ rest)
seen_takes good to back sx fx fy at seen code bytes y rest fits e =
    let first = bind_some (at bytes) (λ x. cond (good x.0) (Some (to x.0, x.1)) None) (y, rest) e in
    let last = guard_holds (good first.0.0) (to first.0.0, first.0.1) (y, rest) first.2 in
    let tx = code.takes bytes first.0.0 first.0.1 fits first.1 in
    let is = seen.there first.0.0 tx.0 last.0 in
    let whole : bytes ≡ sx (back (to first.0.0)) ++ first.0.1 = tx.1 ∙ ap (λ x. sx x ++ first.0.1) (sym is.1) in
    subst (λ v. fy v.0 × (bytes ≡ sx (back v.0) ++ v.1)) last.1 (is.0, whole)

seen_again : {X Y : Type 0} (good : X → Bool) (to : X → Y) (back : Y → X) (sx : X → List ℕ) (fx : X → Type 0) (fy : Y → Type 0) (at : Front X) → IsSeen good to back fx fy → IsCode sx fx at
    → (y : Y) (rest : List ℕ) → fy y → seen_at good to at (sx (back y) ++ rest) ≡ Some (y, rest)
seen_again good to back sx fx fy at seen code y rest fits =
    let is = seen.here y fits in
    rw (code.again (back y) rest is.0, is.1) (ap (λ z. Some (z, rest)) is.2)

pub seen_code : {X Y : Type 0} (good : X → Bool) (to : X → Y) (back : Y → X) (sx : X → List ℕ) (fx : X → Type 0) (fy : Y → Type 0) (at : Front X) → IsSeen good to back fx fy → IsCode sx fx at
    → IsCode (λ y. sx (back y)) fy (seen_at good to at)
seen_code good to back sx fx fy at seen code = record {
  takes = seen_takes good to back sx fx fy at seen code;
  again = seen_again good to back sx fx fy at seen code;
}

-- ---- lists

many_takes : {X : Type 0} (spelled : X → List ℕ) (Fits : X → Type 0) (at : Front X) → IsCode spelled Fits at
    → (count : ℕ) (bytes : List ℕ) (xs : List X) (rest : List ℕ) → AreBytes bytes → many_at at count bytes ≡ Some (xs, rest)
    → AllByRecursion Fits xs × (length xs ≡ count) × (bytes ≡ flat_map spelled xs ++ rest)
unfolding many_at
many_takes spelled Fits at code zero bytes xs rest fits e =
    subst (λ v. AllByRecursion Fits v.0 × (length v.0 ≡ 0) × (bytes ≡ flat_map spelled v.0 ++ v.1)) (some_is ([], bytes) (xs, rest) e) (tt, refl, refl)
many_takes spelled Fits at code (suc count) bytes xs rest fits e =
    let first = bind_some (at bytes) (λ first. many_at at count first.1 >>= λ others. Some (first.0 ∷ others.0, others.1)) (xs, rest) e in
    let second = bind_some (many_at at count first.0.1) (λ others. Some (first.0.0 ∷ others.0, others.1)) (xs, rest) first.2 in
    let tx = code.takes bytes first.0.0 first.0.1 fits first.1 in
    let ts = many_takes spelled Fits at code count first.0.1 second.0.0 second.0.1 (AreBytes-rest (spelled first.0.0) first.0.1 bytes tx.1 fits) second.1 in
    let whole : bytes ≡ flat_map spelled (first.0.0 ∷ second.0.0) ++ second.0.1 =
    tx.1 ∙ ap (λ r. spelled first.0.0 ++ r) ts.2 ∙ sym (append_assoc (spelled first.0.0) (flat_map spelled second.0.0) second.0.1) ∙ ap (λ f. f ++ second.0.1) (sym (flat_map-cons spelled first.0.0 second.0.0)) in
    let size : length (first.0.0 ∷ second.0.0) ≡ suc count = omega (arith, ts.1) in
    subst (λ v. AllByRecursion Fits v.0 × (length v.0 ≡ suc count) × (bytes ≡ flat_map spelled v.0 ++ v.1)) (some_is _ (xs, rest) second.2) ((tx.0, ts.0), size, whole)

many_again : {X : Type 0} (spelled : X → List ℕ) (Fits : X → Type 0) (at : Front X) → IsCode spelled Fits at
    → (xs : List X) (rest : List ℕ) → AllByRecursion Fits xs → many_at at (length xs) (flat_map spelled xs ++ rest) ≡ Some (xs, rest)
unfolding many_at
many_again spelled Fits at code [] rest fits = refl
many_again spelled Fits at code (x ∷ xs) rest fits =
    ap (λ f. many_at at (suc (length xs)) (f ++ rest)) (flat_map-cons spelled x xs)
    ∙ ap (many_at at (suc (length xs))) (append_assoc (spelled x) (flat_map spelled xs) rest)
    ∙ rw (code.again x (flat_map spelled xs ++ rest) fits.0, many_again spelled Fits at code xs rest fits.1) refl

-- a list whose values fit, and which isn't too long for its count
abbrev pub FitAll : {X : Type 0} → (X → Type 0) → List X → Type 0
FitAll Fits xs = (length xs < 2 ^ 64) × AllByRecursion Fits xs

counted_takes : {X : Type 0} (spelled : X → List ℕ) (Fits : X → Type 0) (at : Front X) → IsCode spelled Fits at
    → (bytes : List ℕ) (xs : List X) (rest : List ℕ) → AreBytes bytes → counted_at at bytes ≡ Some (xs, rest) → FitAll Fits xs × (bytes ≡ counted spelled xs ++ rest)
counted_takes spelled Fits at code bytes xs rest fits e =
    let step = bind_some (number_at bytes) (λ count. many_at at count.0 count.1) (xs, rest) e in
    let n = number_code.takes bytes step.0.0 step.0.1 fits step.1 in
    let ts = many_takes spelled Fits at code step.0.0 step.0.1 xs rest (AreBytes-rest (varint step.0.0) step.0.1 bytes n.1 fits) step.2 in
    let whole : bytes ≡ varint (length xs) ++ (flat_map spelled xs ++ rest) =
    n.1 ∙ ap (λ r. varint step.0.0 ++ r) ts.2 ∙ ap (λ k. varint k ++ (flat_map spelled xs ++ rest)) (sym ts.1) in
    ((omega (arith, n.0, ts.1), ts.0), whole ∙ sym (append_assoc (varint (length xs)) (flat_map spelled xs) rest))

counted_again : {X : Type 0} (spelled : X → List ℕ) (Fits : X → Type 0) (at : Front X) → IsCode spelled Fits at
    → (xs : List X) (rest : List ℕ) → FitAll Fits xs → counted_at at (counted spelled xs ++ rest) ≡ Some (xs, rest)
counted_again spelled Fits at code xs rest fits =
    ap (counted_at at) (append_assoc (varint (length xs)) (flat_map spelled xs) rest)
    ∙ rw (number_code.again (length xs) (flat_map spelled xs ++ rest) fits.0) (many_again spelled Fits at code xs rest fits.1)

pub counted_code : {X : Type 0} (spelled : X → List ℕ) (Fits : X → Type 0) (at : Front X) → IsCode spelled Fits at → IsCode (counted spelled) (FitAll Fits) (counted_at at)
counted_code spelled Fits at code = record {
  takes = counted_takes spelled Fits at code;
  again = counted_again spelled Fits at code;
}

-- ---- a loop over so many values

-- what was read before, and what is still read
abbrev pub with_front : {X : Type 0} → List X → Option (List X × List ℕ) → Option (List X × List ℕ)
with_front front read = read >>= λ x. Some (front ++ x.0, x.1)

regroup : {X : Type 0} (front : List X) (x : X) (read : Option (List X × List ℕ)) → with_front front (read >>= λ xs. Some (x ∷ xs.0, xs.1)) ≡ with_front (front ++ x ∷ []) read
regroup front x (Some xs) = ap (λ ys. Some (ys, xs.1)) (sym (append_assoc front (x ∷ []) xs.0))
regroup front x None = refl

same_front : {X : Type 0} (read : Option (List X × List ℕ)) → with_front [] read ≡ read
same_front (Some x) = refl
same_front None = refl

pub many_begins : {X : Type 0} (at : Front X) (count : ℕ) (bytes : List ℕ) (total : Option (List X × List ℕ)) → many_at at count bytes ≡ total → with_front [] (many_at at count bytes) ≡ total
many_begins at count bytes total e = same_front (many_at at count bytes) ∙ e

pub many_goes_on : {X : Type 0} (at : Front X) (front : List X) (count i : ℕ) (bytes : List ℕ) (x : X) (after : List ℕ) (total : Option (List X × List ℕ)) → i < count → at bytes ≡ Some (x, after)
    → with_front front (many_at at (count - i) bytes) ≡ total → with_front (front ++ x ∷ []) (many_at at (count - (i + 1)) after) ≡ total
unfolding many_at
many_goes_on at front count i bytes x after total lt h so_far =
    let k : count - i ≡ suc (count - (i + 1)) = omega arith in
    let one : with_front front (many_at at (count - i) bytes) ≡ with_front (front ++ x ∷ []) (many_at at (count - (i + 1)) after) = rw (k, h) (regroup front x (many_at at (count - (i + 1)) after)) in
    sym one ∙ so_far

pub many_ends : {X : Type 0} (at : Front X) (front : List X) (count i : ℕ) (bytes : List ℕ) (total : Option (List X × List ℕ)) → i < count → at bytes ≡ None
    → with_front front (many_at at (count - i) bytes) ≡ total → total ≡ None
unfolding many_at
many_ends at front count i bytes total lt h so_far =
    let k : count - i ≡ suc (count - (i + 1)) = omega arith in
    let one : with_front front (many_at at (count - i) bytes) ≡ None = rw (k, h) refl in
    sym so_far ∙ one

pub many_done : {X : Type 0} (at : Front X) (front : List X) (count i : ℕ) (bytes : List ℕ) (total : Option (List X × List ℕ)) → count ≤ i → with_front front (many_at at (count - i) bytes) ≡ total → total ≡ Some (front, bytes)
unfolding many_at
many_done at front count i bytes total le so_far =
    let k : count - i ≡ 0 = omega arith in
    let one : with_front front (many_at at (count - i) bytes) ≡ Some (front, bytes) = rw k (ap (λ xs. Some (xs, bytes)) (append-nil front)) in
    sym so_far ∙ one
