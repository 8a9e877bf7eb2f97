-- The greatest of some numbers.
use Rattle.std.proofs.Common.{◌≡◌, ◌<◌, ◌≤◌, ℕ, suc, suc-le-suc, max, Bool, true, false, cond, List, [], ◌∷◌, ◌++◌, All, filter, map, length, get_or, inl, inr, refl, sym, ap, subst, ◌∙◌, arith, if◌then◌else◌}
use Rattle.std.proofs.lemmas.Bool.{cases_lt}
use Rattle.ci_change.specs.Pending.{greatest}

-- ---- the greatest of the numbers of those that pass a test

max-push : (b c : Bool) (first last rest : ℕ) → (if b then max first (if c then max rest last else rest) else (if c then max rest last else rest))
    ≡ (if c then max (if b then max first rest else rest) last else (if b then max first rest else rest))
max-push true true first last rest = omega arith
max-push true false first last rest = refl
max-push false true first last rest = refl
max-push false false first last rest = refl

max-le : (b : Bool) (first rest limit : ℕ) → first ≤ limit → rest ≤ limit → (if b then max first rest else rest) ≤ limit
max-le true first rest limit low all = omega arith
max-le false first rest limit low all = all

module _ {X : Type 0} (number : X → ℕ) (test : X → Bool) where
  abbrev pub greatest_of : List X → ℕ
  greatest_of xs = greatest (map number (filter test xs))

  greatest-cond : (x : X) (xs : List X) (b : Bool) → greatest (map number (cond b (x ∷ xs) xs)) ≡ (if b then max (number x) (greatest (map number xs)) else greatest (map number xs))
  greatest-cond x xs true = refl
  greatest-cond x xs false = refl

  greatest_of-cons : (x : X) (xs : List X) → greatest_of (x ∷ xs) ≡ (if test x then max (number x) (greatest_of xs) else greatest_of xs)
  greatest_of-cons x xs = greatest-cond x (filter test xs) (test x)

  pub greatest_of-push : (xs : List X) (x : X) → greatest_of (xs ++ x ∷ []) ≡ (if test x then max (greatest_of xs) (number x) else greatest_of xs)
  greatest_of-push [] x = let flip : max (number x) 0 ≡ max 0 (number x) = omega arith in greatest_of-cons x [] ∙ ap (λ n. if test x then n else 0) flip
  greatest_of-push (y ∷ ys) x =
      greatest_of-cons y (ys ++ x ∷ []) ∙ ap (λ n. if test y then max (number y) n else n) (greatest_of-push ys x)
      ∙ max-push (test y) (test x) (number y) (number x) (greatest_of ys)
      ∙ ap (λ n. if test x then max n (number x) else n) (sym (greatest_of-cons y ys))

  -- none of them is above what bounds all
  pub greatest_of-le : (xs : List X) (limit : ℕ) → All (λ x. number x ≤ limit) xs → greatest_of xs ≤ limit
  greatest_of-le [] limit all = omega arith
  greatest_of-le (x ∷ xs) limit all =
      rw (greatest_of-cons x xs) (max-le (test x) (number x) (greatest_of xs) limit (all 0 x (omega arith)) (greatest_of-le xs limit (λ k d within. all (suc k) d (suc-le-suc within))))

  -- one of them passes, and has the number
  pub record IsFound (xs : List X) (d : X) (wanted : ℕ) : Type 0 where
    pub place : ℕ
    pub within : place < length xs
    pub passes : test (get_or xs place d) ≡ true
    pub has : number (get_or xs place d) ≡ wanted

  IsFound-later : (x : X) (xs : List X) (d : X) (wanted : ℕ) → IsFound xs d wanted → IsFound (x ∷ xs) d wanted
  IsFound-later x xs d wanted found = record { place = suc found.place; within = suc-le-suc found.within; passes = found.passes; has = found.has }

  found-cons : (x : X) (xs : List X) (d : X) (b : Bool) → test x ≡ b → (0 < greatest_of xs → IsFound xs d (greatest_of xs)) → 0 < (if b then max (number x) (greatest_of xs) else greatest_of xs)
      → IsFound (x ∷ xs) d (if b then max (number x) (greatest_of xs) else greatest_of xs)
  found-cons x xs d false fails rest some = IsFound-later x xs d _ (rest some)
  found-cons x xs d true passes rest some = elim (cases_lt (number x) (greatest_of xs)) [
    | inl below ↦
        let last : greatest_of xs ≡ max (number x) (greatest_of xs) = omega arith in
        subst (IsFound (x ∷ xs) d) last (IsFound-later x xs d _ (rest (omega arith)))
    | inr above ↦ record { place = 0; within = omega arith; passes = passes; has = omega arith }
  ]

  -- where the greatest isn't 0, one of them has it
  pub greatest_of-found : (xs : List X) (d : X) → 0 < greatest_of xs → IsFound xs d (greatest_of xs)
  greatest_of-found [] d some = absurd (omega arith)
  greatest_of-found (x ∷ xs) d some =
      let cons = greatest_of-cons x xs in
      subst (IsFound (x ∷ xs) d) (sym cons) (found-cons x xs d (test x) refl (greatest_of-found xs d) (rw cons at some))
