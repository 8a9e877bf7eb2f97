-- Lists of the entries of seats.
use Rattle.std.proofs.Common.{◌≡◌, ◌≢◌, ℕ, zero, suc, ◌+◌, ◌<◌, Bool, true, false, cond, eqb, eq-eqb, ne_eqb, List, [], ◌∷◌, ◌++◌, length, length-append, Option, Some, None, refl, sym, ap, ◌∙◌, arith}
use Rattle.ci_turn.specs.Views.{events_of, StandsFor}
use Rattle.ci_turn_rows.specs.Turns.{entry, turns_of}

pub turns_length : (seat count : ℕ) → length (turns_of seat count) ≡ count
turns_length seat zero = refl
turns_length seat (suc count) = let h = turns_length seat count in omega (arith, length-append (turns_of seat count) (entry seat count ∷ []))

-- one turn more
pub turns_more : (seat count : ℕ) → turns_of seat count ++ entry seat count ∷ [] ≡ turns_of seat (count + 1)
turns_more seat count = let e : suc count ≡ count + 1 = omega arith in ap (turns_of seat) e

module _ {E : Type 0} (author : E → ℕ) where
  cond_nil : (b : Bool) (x : E) (r : List E) → cond b (x ∷ r) r ≡ [] → r ≡ []
  cond_nil true x r e = absurd (cc e)
  cond_nil false x r e = e

  -- the events of the head's number aren't none
  head_stands : (x : E) (xs : List E) → events_of author (author x) (x ∷ xs) ≢ []
  head_stands x xs e =
      let b : eqb (author x) (author x) ≡ true = eq-eqb (author x) (author x) refl in
      let h : x ∷ events_of author (author x) xs ≡ [] = ap (λ (c : Bool). cond c (x ∷ events_of author (author x) xs) (events_of author (author x) xs)) (sym b) ∙ e in
      absurd (cc h)

  kept : (n : ℕ) (x : E) (xs : List E) → author x ≡ n → length (events_of author n (x ∷ xs)) ≡ length (events_of author n xs) + 1
  kept n x xs e = let h : length (events_of author n (x ∷ xs)) ≡ length (x ∷ events_of author n xs) = ap (λ (b : Bool). length (cond b (x ∷ events_of author n xs) (events_of author n xs))) (eq-eqb (author x) n e) in omega (arith, h)

  passed : (n : ℕ) (x : E) (xs : List E) → author x ≢ n → length (events_of author n (x ∷ xs)) ≡ length (events_of author n xs)
  passed n x xs e = ap (λ (b : Bool). length (cond b (x ∷ events_of author n xs) (events_of author n xs))) (ne_eqb (author x) n e)

  by_author : (x : E) (xs : List E) → ((n : ℕ) → 1 < n → events_of author n (x ∷ xs) ≡ []) → length xs ≡ length (events_of author 0 xs) + length (events_of author 1 xs)
      → (a : ℕ) → author x ≡ a → length (x ∷ xs) ≡ length (events_of author 0 (x ∷ xs)) + length (events_of author 1 (x ∷ xs))
  by_author x xs none rest zero is =
      let a = kept 0 x xs is in let other : author x ≢ 1 = (λ e. absurd (omega arith)) in let b = passed 1 x xs other in omega arith
  by_author x xs none rest (suc zero) is =
      let other : author x ≢ 0 = (λ e. absurd (omega arith)) in let a = passed 0 x xs other in let b = kept 1 x xs (omega arith) in omega arith
  by_author x xs none rest (suc (suc a)) is = absurd (head_stands x xs (none (author x) (omega arith)))

  -- where only 0 and 1 have events, the list is as long as theirs together
  pub two_lengths : (xs : List E) → ((n : ℕ) → 1 < n → events_of author n xs ≡ []) → length xs ≡ length (events_of author 0 xs) + length (events_of author 1 xs)
  two_lengths [] none = refl
  two_lengths (x ∷ xs) none =
      by_author x xs none
      (two_lengths xs (λ n h. cond_nil (eqb (author x) n) x (events_of author n xs) (none n h)))
      (author x) refl

-- a value stands for what it stood for, where the facts about it carry over
pub stands_still : {X F : Type 0} (stands : X → F → Type 0) (x y : X) (fixed : Option F) → ((f : F) → stands x f → stands y f) → StandsFor stands x fixed → StandsFor stands y fixed
stands_still stands x y (Some f) still fits = still f fits
stands_still stands x y None still fits = fits
