-- Fronts of one list, and the events of a number in it.
use Rattle.std.proofs.Common.{◌≡◌, ◌≢◌, ℕ, suc, ◌≤◌, Bool, true, false, ltb, if◌then◌else◌, List, [], ◌∷◌, ◌++◌, length, drop, All, cond, eqb, eq-eqb, ne_eqb, refl, sym, ap, ◌∙◌, arith, append_assoc, append-nil}
use mathlib.Core.List.{IsPrefix}
use Rattle.std.proofs.lemmas.List.Elements.{filter-append}
use Rattle.ci_turn.specs.Views.{events_of, longer}

module _ {E : Type 0} where
  -- of two fronts of one list the shorter is a front of the longer
  shorter : (xs ys zs : List E) → IsPrefix xs zs → IsPrefix ys zs → length xs ≤ length ys → IsPrefix xs ys
  shorter [] ys zs p q le = (ys, refl)
  shorter (x ∷ xs) [] zs p q le = absurd (omega arith)
  shorter (x ∷ xs) (y ∷ ys) [] p q le = absurd (cc (p.1))
  shorter (x ∷ xs) (y ∷ ys) (z ∷ zs) p q le =
      let heads : x ≡ y = cc (p.1, q.1) in
      let rest = shorter xs ys zs (p.0, cc (p.1)) (q.0, cc (q.1)) (omega arith) in
      (rest.0, cc (heads, rest.1))

  -- the longer of two fronts of one list: both begin it, and it is a front
  pub record IsLonger (xs ys zs : List E) : Type 0 where
    pub this : IsPrefix xs (longer xs ys)
    pub that : IsPrefix ys (longer xs ys)
    pub front : IsPrefix (longer xs ys) zs

  longer_if : (xs ys zs : List E) → IsPrefix xs zs → IsPrefix ys zs → (b : Bool) → ltb (length xs) (length ys) ≡ b → IsLonger xs ys zs
  longer_if xs ys zs p q true is =
      let le : length xs ≤ length ys = grind (arith, is) in
      let l : longer xs ys ≡ ys = ap (λ (b : Bool). if b then ys else xs) is in
      record { this = rw l (shorter xs ys zs p q le); that = rw l ([], append-nil ys); front = rw l q }
  longer_if xs ys zs p q false is =
      let le : length ys ≤ length xs = grind (arith, is) in
      let l : longer xs ys ≡ xs = ap (λ (b : Bool). if b then ys else xs) is in
      record { this = rw l ([], append-nil xs); that = rw l (shorter ys xs zs q p le); front = rw l p }

  pub longer_of : (xs ys zs : List E) → IsPrefix xs zs → IsPrefix ys zs → IsLonger xs ys zs
  longer_of xs ys zs p q = longer_if xs ys zs p q (ltb (length xs) (length ys)) refl

  -- a front stays one when the list grows
  pub front_grows : (xs ys zs : List E) → IsPrefix xs ys → IsPrefix xs (ys ++ zs)
  front_grows xs ys zs p = (p.0 ++ zs, sym (append_assoc xs p.0 zs) ∙ ap (λ (w : List E). w ++ zs) p.1)

  pub dropped : (xs ys : List E) → drop (length xs) (xs ++ ys) ≡ ys
  dropped [] ys = refl
  dropped (x ∷ xs) ys = dropped xs ys

  module _ (author : E → ℕ) where
    pub events_append : (n : ℕ) (xs ys : List E) → events_of author n (xs ++ ys) ≡ events_of author n xs ++ events_of author n ys
    events_append n xs ys = filter-append (λ (e : E). eqb (author e) n) xs ys

    rest_of : (n : ℕ) (x : E) (xs : List E) → All (λ e. author e ≡ n) (x ∷ xs) → All (λ e. author e ≡ n) xs
    rest_of n x xs all k d h = all (suc k) d (omega arith)

    pub events_all : (n : ℕ) (xs : List E) → All (λ e. author e ≡ n) xs → events_of author n xs ≡ xs
    events_all n [] all = refl
    events_all n (x ∷ xs) all =
        let head : author x ≡ n = all 0 x (omega arith) in
        ap (λ (b : Bool). cond b (x ∷ events_of author n xs) (events_of author n xs)) (eq-eqb (author x) n head)
        ∙ ap (λ (r : List E). x ∷ r) (events_all n xs (rest_of n x xs all))

    pub events_none : (n m : ℕ) (xs : List E) → All (λ e. author e ≡ n) xs → m ≢ n → events_of author m xs ≡ []
    events_none n m [] all other = refl
    events_none n m (x ∷ xs) all other =
        let head : author x ≡ n = all 0 x (omega arith) in
        let free : author x ≢ m = λ e. other (sym e ∙ head) in
        ap (λ (b : Bool). cond b (x ∷ events_of author m xs) (events_of author m xs)) (ne_eqb (author x) m free)
        ∙ events_none n m xs (rest_of n x xs all) other

    -- the events of another number stay, and those of the number grow by all that is new
    pub events_stay : (n m : ℕ) (xs ys : List E) → All (λ e. author e ≡ n) ys → m ≢ n → events_of author m (xs ++ ys) ≡ events_of author m xs
    events_stay n m xs ys all other =
        events_append m xs ys ∙ (ap (λ (r : List E). events_of author m xs ++ r) (events_none n m ys all other) ∙ append-nil (events_of author m xs))

    pub events_grow : (n : ℕ) (xs ys : List E) → All (λ e. author e ≡ n) ys → events_of author n (xs ++ ys) ≡ events_of author n xs ++ ys
    events_grow n xs ys all = events_append n xs ys ∙ ap (λ (r : List E). events_of author n xs ++ r) (events_all n ys all)
