-- One more element, of a list in which neighbours are joined.
use Rattle.std.proofs.Common.{◌≡◌, ℕ, zero, suc, ◌+◌, Bool, true, false, List, [], ◌∷◌, ◌++◌, length, get_or, set, if◌then◌else◌, inl, inr, refl, ap, ◌∙◌, arith}
use Rattle.std.proofs.lemmas.Bool.{cases_Bool}
use Rattle.ci_entry.specs.Gather.{gather_onto, gathered}

-- a join belongs to what its parts belonged to, and three are joined in either order
pub record JoinsWell {X : Type 0} (belong : X → X → Bool) (join : X → X → X) : Type 0 where
  pub front : (a b c : X) → belong a b ≡ true → belong (join a b) c ≡ belong b c
  pub back : (a b c : X) → belong b c ≡ true → belong a (join b c) ≡ belong a b
  pub assoc : (a b c : X) → join a (join b c) ≡ join (join a b) c

module _ {X : Type 0} (belong : X → X → Bool) (join : X → X → X) where
  -- an element behind others, to the last of which it may belong
  abbrev pub pushed : List X → X → List X
  pushed [] x = x ∷ []
  pushed (w ∷ []) x = if belong w x then join w x ∷ [] else w ∷ x ∷ []
  pushed (w ∷ v ∷ ws) x = w ∷ pushed (v ∷ ws) x

  -- where it belongs to the last, it is joined to it
  pub pushed-joined : (ws : List X) (n : ℕ) (d x : X) → length ws ≡ n + 1 → belong (get_or ws n d) x ≡ true → pushed ws x ≡ set ws n (join (get_or ws n d) x)
  pushed-joined [] n d x last does = absurd (omega arith)
  pushed-joined (w ∷ []) zero d x last does = rw does refl
  pushed-joined (w ∷ []) (suc n) d x last does = absurd (omega arith)
  pushed-joined (w ∷ v ∷ ws) zero d x last does = absurd (omega arith)
  pushed-joined (w ∷ v ∷ ws) (suc n) d x last does = ap (λ vs. w ∷ vs) (pushed-joined (v ∷ ws) n d x (omega arith) does)

  -- and else it comes behind it
  pub pushed-apart : (ws : List X) (n : ℕ) (d x : X) → length ws ≡ n + 1 → belong (get_or ws n d) x ≡ false → pushed ws x ≡ ws ++ x ∷ []
  pushed-apart [] n d x last doesnt = absurd (omega arith)
  pushed-apart (w ∷ []) zero d x last doesnt = rw doesnt refl
  pushed-apart (w ∷ []) (suc n) d x last doesnt = absurd (omega arith)
  pushed-apart (w ∷ v ∷ ws) zero d x last doesnt = absurd (omega arith)
  pushed-apart (w ∷ v ∷ ws) (suc n) d x last doesnt = ap (λ vs. w ∷ vs) (pushed-apart (v ∷ ws) n d x (omega arith) doesnt)

  module _ (well : JoinsWell belong join) where
    onto_one : (a w x : X) → gather_onto belong join a (pushed (w ∷ []) x) ≡ pushed (gather_onto belong join a (w ∷ [])) x
    onto_one a w x =
        elim (cases_Bool (belong w x)) [
          | inl does ↦ elim (cases_Bool (belong a w)) [
            | inl both ↦ rw (does, well.back a w x does, both, well.front a w x both, does, well.assoc a w x) refl
            | inr first ↦ rw (does, well.back a w x does, first, does) refl
          ]
          | inr doesnt ↦ elim (cases_Bool (belong a w)) [
            | inl second ↦ rw (doesnt, second, well.front a w x second, doesnt) refl
            | inr none ↦ rw (doesnt, none, doesnt) refl
          ]
        ]

    onto_pushed : (a : X) (ws : List X) (x : X) → gather_onto belong join a (pushed ws x) ≡ pushed (gather_onto belong join a ws) x
    onto_pushed a [] x = refl
    onto_pushed a (w ∷ []) x = onto_one a w x
    onto_pushed a (w ∷ v ∷ ws) x = elim (cases_Bool (belong a w)) [ inl does ↦ rw does refl | inr doesnt ↦ rw doesnt refl ]

    -- one more element
    pub gathered-push : (xs : List X) (x : X) → gathered belong join (xs ++ x ∷ []) ≡ pushed (gathered belong join xs) x
    gathered-push [] x = refl
    gathered-push (a ∷ xs) x = ap (gather_onto belong join a) (gathered-push xs x) ∙ onto_pushed a (gathered belong join xs) x
