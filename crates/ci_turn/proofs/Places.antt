-- Lists of what is known of the seats, place by place.
use Rattle.std.proofs.Common.{◌≡◌, ◌≢◌, ◌⊎◌, ℕ, zero, suc, ◌<◌, List, [], ◌∷◌, ◌++◌, map, length, slice_index_or, set, refl, sym, ap, ◌∙◌, subst, inl, inr, ⊎_elim, arith}
use mathlib.Core.Option.{some, some-injective, some-ne-none}
use lib.ListN.{get_elem?}
use Rattle.atomic_table.proofs.Lists.{at_set, set_again, at_map}

module _ {A : Type 0} where
  pub here : (l : List A) (i : ℕ) (a b : A) → get_elem? l i ≡ some a → get_elem? l i ≡ some b → a ≡ b
  here l i a b p q = some-injective a b (sym p ∙ q)

  pub at_below : (l : List A) (i : ℕ) (a : A) → get_elem? l i ≡ some a → i < length l
  at_below [] i a e = absurd (some-ne-none a (sym e))
  at_below (x ∷ xs) zero a e = omega arith
  at_below (x ∷ xs) (suc i) a e = let h = at_below xs i a e in omega arith

  pub at_or : (l : List A) (i : ℕ) (d : A) → i < length l → get_elem? l i ≡ some (slice_index_or l i d)
  at_or [] i d h = absurd (omega arith)
  at_or (x ∷ xs) zero d h = refl
  at_or (x ∷ xs) (suc i) d h = at_or xs i d (omega arith)

  -- an element of a longer list stands in the list, or is the last
  pub at_end : (l : List A) (a b : A) (j : ℕ) → get_elem? (l ++ a ∷ []) j ≡ some b → (get_elem? l j ≡ some b) ⊎ ((j ≡ length l) × (a ≡ b))
  at_end [] a b zero e = inr (refl, some-injective a b e)
  at_end [] a b (suc j) e = absurd (some-ne-none b (sym e))
  at_end (x ∷ xs) a b zero e = inl e
  at_end (x ∷ xs) a b (suc j) e = ⊎_elim (λ t. inl t) (λ t. inr (ap suc t.0, t.1)) (at_end xs a b j e)

  -- a fact of each element, where one is set or added
  pub each_set : (F : A → Type 0) (l : List A) (id : ℕ) (a : A) → ((i : ℕ) (p : A) → i ≢ id → get_elem? l i ≡ some p → F p) → F a
      → (i : ℕ) (p : A) → get_elem? (set l id a) i ≡ some p → F p
  each_set F l id a old new i p at =
      ⊎_elim (λ (t : (i ≡ id) × (a ≡ p)). subst F t.1 new) (λ (t : (i ≢ id) × (get_elem? l i ≡ some p)). old i p t.0 t.1) (at_set l id i a p at)

  pub each_snoc : (F : A → Type 0) (l : List A) (a : A) → ((i : ℕ) (p : A) → get_elem? l i ≡ some p → F p) → F a
      → (i : ℕ) (p : A) → get_elem? (l ++ a ∷ []) i ≡ some p → F p
  each_snoc F l a old new i p at =
      ⊎_elim (λ (t : get_elem? l i ≡ some p). old i p t) (λ (t : (i ≡ length l) × (a ≡ p)). subst F t.1 new) (at_end l a p i at)

module _ {A B : Type 0} (f : A → B) where
  pub map_set : (l : List A) (i : ℕ) (a : A) → map f (set l i a) ≡ set (map f l) i (f a)
  map_set [] i a = refl
  map_set (x ∷ xs) zero a = refl
  map_set (x ∷ xs) (suc i) a = ap (λ r. f x ∷ r) (map_set xs i a)

  -- a change that f doesn't see
  pub map_same : (l : List A) (i : ℕ) (v w : A) → get_elem? l i ≡ some v → f w ≡ f v → map f (set l i w) ≡ map f l
  map_same l i v w at same = map_set l i w ∙ (ap (λ b. set (map f l) i b) same ∙ set_again (map f l) i (f v) (at_map f l i v at))

  pub map_snoc : (l : List A) (a : A) → map f (l ++ a ∷ []) ≡ map f l ++ f a ∷ []
  map_snoc [] a = refl
  map_snoc (x ∷ xs) a = ap (λ r. f x ∷ r) (map_snoc xs a)

  -- what stands in the mapped list comes from the list
  pub map_back : (l : List A) (i : ℕ) (b : B) → get_elem? (map f l) i ≡ some b → (a : A) × (get_elem? l i ≡ some a) × (f a ≡ b)
  map_back [] i b e = absurd (some-ne-none b (sym e))
  map_back (x ∷ xs) zero b e = (x, refl, some-injective (f x) b e)
  map_back (x ∷ xs) (suc i) b e = map_back xs i b e
