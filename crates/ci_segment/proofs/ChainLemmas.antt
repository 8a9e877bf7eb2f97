-- Values of which each is spelled beside the one before it are read where they are spelled.
use Rattle.std.proofs.Common.{◌≡◌, ℕ, zero, suc, ◌+◌, ◌-◌, ◌<◌, ◌≤◌, List, [], ◌∷◌, ◌++◌, length, Option, Some, None, refl, sym, ap, subst, ◌∙◌, append_assoc, append-nil, length-append, arith}
use Rattle.ci_front.specs.Front.{Front, ◌>>=◌}
use Rattle.ci_front.proofs.FrontLemmas.{AreBytes, AreBytes-rest, IsCode, bind_some, some_is}
use Rattle.ci_front.proofs.CodeLemmas.{with_front}
use Rattle.ci_segment.specs.Chain.{Follow, chain_at, chained, whole_chain}

module _ {C X : Type 0} (spelled : C → X → List ℕ) (may : C → X → Type 0) (at : C → Front X) (next : C → X → C) (code : (before : C) → IsCode (spelled before) (may before) (at before)) where
  pub chain_takes : (before : C) (count : ℕ) (bytes : List ℕ) (xs : List X) (rest : List ℕ) → AreBytes bytes → chain_at at next before count bytes ≡ Some (xs, rest)
      → Follow may next before xs × (length xs ≡ count) × (bytes ≡ chained spelled next before xs ++ rest)
  unfolding chain_at chained Follow
  chain_takes before zero bytes xs rest fits e =
      subst (λ (v : List X × List ℕ). Follow may next before v.0 × (length v.0 ≡ 0) × (bytes ≡ chained spelled next before v.0 ++ v.1)) (some_is ([], bytes) (xs, rest) e) (tt, refl, refl)
  chain_takes before (suc count) bytes xs rest fits e =
      let first = bind_some (at before bytes) (λ first. chain_at at next (next before first.0) count first.1 >>= λ others. Some (first.0 ∷ others.0, others.1)) (xs, rest) e in
      let second = bind_some (chain_at at next (next before first.0.0) count first.0.1) (λ others. Some (first.0.0 ∷ others.0, others.1)) (xs, rest) first.2 in
      let tx = (code before).takes bytes first.0.0 first.0.1 fits first.1 in
      let ts = chain_takes (next before first.0.0) count first.0.1 second.0.0 second.0.1 (AreBytes-rest (spelled before first.0.0) first.0.1 bytes tx.1 fits) second.1 in
      let whole : bytes ≡ (spelled before first.0.0 ++ chained spelled next (next before first.0.0) second.0.0) ++ second.0.1 =
      tx.1 ∙ ap (λ r. spelled before first.0.0 ++ r) ts.2 ∙ sym (append_assoc (spelled before first.0.0) (chained spelled next (next before first.0.0) second.0.0) second.0.1) in
      let size : length (first.0.0 ∷ second.0.0) ≡ suc count = omega (arith, ts.1) in
      subst (λ (v : List X × List ℕ). Follow may next before v.0 × (length v.0 ≡ suc count) × (bytes ≡ chained spelled next before v.0 ++ v.1)) (some_is _ (xs, rest) second.2) ((tx.0, ts.0), size, whole)

  pub chain_again : (before : C) (xs : List X) (rest : List ℕ) → Follow may next before xs → chain_at at next before (length xs) (chained spelled next before xs ++ rest) ≡ Some (xs, rest)
  unfolding chain_at chained Follow
  chain_again before [] rest fits = refl
  chain_again before (x ∷ xs) rest fits =
      ap (chain_at at next before (suc (length xs))) (append_assoc (spelled before x) (chained spelled next (next before x) xs) rest)
      ∙ rw ((code before).again x (chained spelled next (next before x) xs ++ rest) fits.0, chain_again (next before x) xs rest fits.1) refl

  pub whole_takes : (before : C) (most : ℕ) (bytes : List ℕ) (xs : List X) → AreBytes bytes → whole_chain at next before most bytes ≡ Some xs → Follow may next before xs × (bytes ≡ chained spelled next before xs)
  unfolding whole_chain chained Follow
  whole_takes before most [] xs fits e =
      subst (λ (v : List X). Follow may next before v × ([] ≡ chained spelled next before v)) (some_is [] xs e) (tt, refl)
  whole_takes before zero (b ∷ bytes) xs fits e = absurd cc
  whole_takes before (suc most) (b ∷ bytes) xs fits e =
      let first = bind_some (at before (b ∷ bytes)) (λ first. whole_chain at next (next before first.0) most first.1 >>= λ others. Some (first.0 ∷ others)) xs e in
      let second = bind_some (whole_chain at next (next before first.0.0) most first.0.1) (λ others. Some (first.0.0 ∷ others)) xs first.2 in
      let tx = (code before).takes (b ∷ bytes) first.0.0 first.0.1 fits first.1 in
      let ts = whole_takes (next before first.0.0) most first.0.1 second.0 (AreBytes-rest (spelled before first.0.0) first.0.1 (b ∷ bytes) tx.1 fits) second.1 in
      let whole : b ∷ bytes ≡ spelled before first.0.0 ++ chained spelled next (next before first.0.0) second.0 = tx.1 ∙ ap (λ r. spelled before first.0.0 ++ r) ts.1 in
      subst (λ (v : List X). Follow may next before v × (b ∷ bytes ≡ chained spelled next before v)) (some_is _ xs second.2) ((tx.0, ts.0), whole)

  -- where no value has an empty spelling, as many as there are bytes are enough
  module _ (some : (before : C) (x : X) → may before x → 0 < length (spelled before x)) where
    begun : (before : C) (most : ℕ) (bytes : List ℕ) (x : X) (rest : List ℕ) → 0 < length bytes → at before bytes ≡ Some (x, rest)
        → whole_chain at next before (suc most) bytes ≡ (whole_chain at next (next before x) most rest >>= λ others. Some (x ∷ others))
    unfolding whole_chain
    begun before most [] x rest long e = absurd (omega arith)
    begun before most (b ∷ bytes) x rest long e = rw e refl

    pub whole_again : (before : C) (most : ℕ) (xs : List X) → Follow may next before xs → length (chained spelled next before xs) ≤ most → whole_chain at next before most (chained spelled next before xs) ≡ Some xs
    unfolding whole_chain chained Follow
    whole_again before zero [] fits short = refl
    whole_again before (suc most) [] fits short = refl
    whole_again before zero (x ∷ xs) fits short =
        absurd (omega (arith, some before x fits.0, length-append (spelled before x) (chained spelled next (next before x) xs)))
    whole_again before (suc most) (x ∷ xs) fits short =
        let size = length-append (spelled before x) (chained spelled next (next before x) xs) in
        let one = some before x fits.0 in
        begun before most (spelled before x ++ chained spelled next (next before x) xs) x (chained spelled next (next before x) xs) (omega (arith, size, one)) ((code before).again x (chained spelled next (next before x) xs) fits.0)
        ∙ rw (whole_again (next before x) most xs fits.1 (omega (arith, size, one, short))) refl

-- ---- loops

-- what was read before, and what is still read
abbrev pub with_all : {X : Type 0} → List X → Option (List X) → Option (List X)
with_all front read = read >>= λ xs. Some (front ++ xs)

with_none : {X : Type 0} (read : Option (List X)) → with_all [] read ≡ read
with_none (Some xs) = refl
with_none None = refl

regroup_all : {X : Type 0} (front : List X) (x : X) (read : Option (List X)) → with_all front (read >>= λ xs. Some (x ∷ xs)) ≡ with_all (front ++ x ∷ []) read
regroup_all front x (Some xs) = ap (λ ys. Some ys) (sym (append_assoc front (x ∷ []) xs))
regroup_all front x None = refl

module _ {C X : Type 0} (at : C → Front X) (next : C → X → C) where
  pub whole_begins : (front : List X) (m n : ℕ) (before : C) (bytes : List ℕ) → front ≡ [] → m ≡ n → with_all front (whole_chain at next before m bytes) ≡ whole_chain at next before n bytes
  whole_begins front m n before bytes none same = ap (λ xs. with_all xs (whole_chain at next before m bytes)) none ∙ with_none (whole_chain at next before m bytes) ∙ ap (λ k. whole_chain at next before k bytes) same

  -- one value of the whole
  one_more : (before : C) (most : ℕ) (bytes : List ℕ) (x : X) (rest : List ℕ) → 0 < length bytes → at before bytes ≡ Some (x, rest)
      → whole_chain at next before (suc most) bytes ≡ (whole_chain at next (next before x) most rest >>= λ xs. Some (x ∷ xs))
  unfolding whole_chain
  one_more before most [] x rest long e = absurd (omega arith)
  one_more before most (b ∷ bytes) x rest long e = rw e refl

  one_bad : (before : C) (most : ℕ) (bytes : List ℕ) → 0 < length bytes → at before bytes ≡ None → whole_chain at next before (suc most) bytes ≡ None
  unfolding whole_chain
  one_bad before most [] long e = absurd (omega arith)
  one_bad before most (b ∷ bytes) long e = rw e refl

  pub whole_goes_on : (front : List X) (most i : ℕ) (before : C) (bytes : List ℕ) (x : X) (after : List ℕ) (total : Option (List X)) → i < most → 0 < length bytes → at before bytes ≡ Some (x, after)
      → with_all front (whole_chain at next before (most - i) bytes) ≡ total → with_all (front ++ x ∷ []) (whole_chain at next (next before x) (most - (i + 1)) after) ≡ total
  whole_goes_on front most i before bytes x after total lt long e so_far =
      let k : most - i ≡ suc (most - (i + 1)) = omega arith in
      sym (regroup_all front x (whole_chain at next (next before x) (most - (i + 1)) after))
      ∙ ap (with_all front) (sym (one_more before (most - (i + 1)) bytes x after long e) ∙ ap (λ n. whole_chain at next before n bytes) (sym k)) ∙ so_far

  pub whole_stops : (front : List X) (most i : ℕ) (before : C) (bytes : List ℕ) (total : Option (List X)) → i < most → 0 < length bytes → at before bytes ≡ None
      → with_all front (whole_chain at next before (most - i) bytes) ≡ total → total ≡ None
  whole_stops front most i before bytes total lt long e so_far =
      let k : most - i ≡ suc (most - (i + 1)) = omega arith in
      sym so_far ∙ ap (with_all front) (ap (λ n. whole_chain at next before n bytes) k ∙ one_bad before (most - (i + 1)) bytes long e)

  -- no bytes are left
  pub whole_ends : (front : List X) (most : ℕ) (before : C) (bytes : List ℕ) (total : Option (List X)) → length bytes ≡ 0 → with_all front (whole_chain at next before most bytes) ≡ total → total ≡ Some front
  unfolding whole_chain
  whole_ends front most before [] total none so_far = sym so_far ∙ ap (λ xs. Some xs) (append-nil front)
  whole_ends front most before (b ∷ bytes) total none so_far = absurd (omega arith)

  -- or some are, and no value more may come
  pub whole_is_long : (front : List X) (most : ℕ) (before : C) (bytes : List ℕ) (total : Option (List X)) → most ≡ 0 → 0 < length bytes → with_all front (whole_chain at next before most bytes) ≡ total → total ≡ None
  unfolding whole_chain
  whole_is_long front zero before [] total none long so_far = absurd (omega arith)
  whole_is_long front zero before (b ∷ bytes) total none long so_far = sym so_far
  whole_is_long front (suc most) before bytes total none long so_far = absurd (omega arith)

-- so many values, one after the other
module _ {C X : Type 0} (at : C → Front X) (next : C → X → C) where
  regroup : (front : List X) (x : X) (read : Option (List X × List ℕ)) → with_front front (read >>= λ xs. Some (x ∷ xs.0, xs.1)) ≡ with_front (front ++ x ∷ []) read
  regroup front x (Some xs) = ap (λ ys. Some (ys, xs.1)) (sym (append_assoc front (x ∷ []) xs.0))
  regroup front x None = refl

  pub chain_goes_on : (front : List X) (count i : ℕ) (before : C) (bytes : List ℕ) (x : X) (after : List ℕ) (total : Option (List X × List ℕ)) → i < count → at before bytes ≡ Some (x, after)
      → with_front front (chain_at at next before (count - i) bytes) ≡ total → with_front (front ++ x ∷ []) (chain_at at next (next before x) (count - (i + 1)) after) ≡ total
  unfolding chain_at
  chain_goes_on front count i before bytes x after total lt h so_far =
      let k : count - i ≡ suc (count - (i + 1)) = omega arith in
      let one : with_front front (chain_at at next before (count - i) bytes) ≡ with_front (front ++ x ∷ []) (chain_at at next (next before x) (count - (i + 1)) after) =
      rw (k, h) (regroup front x (chain_at at next (next before x) (count - (i + 1)) after)) in
      sym one ∙ so_far

  pub chain_stops : (front : List X) (count i : ℕ) (before : C) (bytes : List ℕ) (total : Option (List X × List ℕ)) → i < count → at before bytes ≡ None
      → with_front front (chain_at at next before (count - i) bytes) ≡ total → total ≡ None
  unfolding chain_at
  chain_stops front count i before bytes total lt h so_far =
      let k : count - i ≡ suc (count - (i + 1)) = omega arith in
      let one : with_front front (chain_at at next before (count - i) bytes) ≡ None = rw (k, h) refl in
      sym so_far ∙ one

  pub chain_done : (front : List X) (count i : ℕ) (before : C) (bytes : List ℕ) (total : Option (List X × List ℕ)) → count ≤ i → with_front front (chain_at at next before (count - i) bytes) ≡ total → total ≡ Some (front, bytes)
  unfolding chain_at
  chain_done front count i before bytes total le so_far =
      let k : count - i ≡ 0 = omega arith in
      let one : with_front front (chain_at at next before (count - i) bytes) ≡ Some (front, bytes) = rw k (ap (λ xs. Some (xs, bytes)) (append-nil front)) in
      sym so_far ∙ one
