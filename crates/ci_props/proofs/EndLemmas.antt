-- The ends of a text, and tests that some end passes.
use Rattle.std.proofs.Common.{◌≡◌, ℕ, zero, suc, ◌+◌, ◌||◌, Bool, true, false, List, [], ◌∷◌, drop, refl, sym, ap, ◌∙◌, inl, inr, ◌⊎◌}
use Rattle.std.specs.List.{list_any}
use Rattle.std.proofs.lemmas.Bool.{false_from_ne_true}
use Rattle.std.proofs.lemmas.List.{drop-drop}
use Rattle.ci_props.specs.Pattern.{ends}

either : (a b : Bool) → (a || b) ≡ true → (a ≡ true) ⊎ (b ≡ true)
either true b h = inl refl
either false b h = inr h

second : (a b : Bool) → b ≡ true → (a || b) ≡ true
second true b h = refl
second false b h = h

-- two tests that hold at the same time are one
pub same_test : (a b : Bool) → (a ≡ true → b ≡ true) → (b ≡ true → a ≡ true) → a ≡ b
same_test true true f g = refl
same_test true false f g = sym (f refl)
same_test false true f g = g refl
same_test false false f g = refl

-- an end that passes stands behind some of the characters
pub any_end-drop : (f : List ℕ → Bool) (text : List ℕ) → list_any f (ends text) ≡ true → (n : ℕ) × (f (drop n text) ≡ true)
any_end-drop f [] h = elim (either (f []) false h) [ inl first ↦ (0, first) | inr none ↦ (0, cc) ]
any_end-drop f (c ∷ cs) h =
    elim (either (f (c ∷ cs)) (list_any f (ends cs)) h) [
      | inl first ↦ (0, first)
      | inr later ↦ let found = any_end-drop f cs later in (suc found.0, found.1)
    ]

pub drop-any_end : (f : List ℕ → Bool) (n : ℕ) (text : List ℕ) → f (drop n text) ≡ true → list_any f (ends text) ≡ true
drop-any_end f zero [] h = ap (λ b. b || false) h
drop-any_end f zero (c ∷ cs) h = ap (λ b. b || list_any f (ends cs)) h
drop-any_end f (suc n) [] h = ap (λ b. b || false) h
drop-any_end f (suc n) (c ∷ cs) h = second (f (c ∷ cs)) (list_any f (ends cs)) (drop-any_end f n cs h)

-- an end of an end is an end
pub any_end-later : (f : List ℕ → Bool) (n : ℕ) (text : List ℕ) → list_any f (ends (drop n text)) ≡ true → list_any f (ends text) ≡ true
any_end-later f n text h =
    let found = any_end-drop f (drop n text) h in
    drop-any_end f (n + found.0) text (ap f (sym (drop-drop found.0 n text)) ∙ found.1)

pub no_end : (f : List ℕ → Bool) (text : List ℕ) → ((n : ℕ) → f (drop n text) ≡ false) → list_any f (ends text) ≡ false
no_end f text none =
    false_from_ne_true (list_any f (ends text))
    (λ some. let found = any_end-drop f text some in let not_so = none found.0 in cc (found.1, not_so))
