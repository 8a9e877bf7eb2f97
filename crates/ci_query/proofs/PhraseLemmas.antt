-- The places of a phrase.
use Rattle.std.proofs.Common.{◌≡◌, ◌↔◌, ℕ, suc, ◌+◌, ◌-◌, ◌<◌, Bool, true, false, List, [], ◌∷◌, ◌++◌, Contains, IsTrue, bytes_eq, length, take, get_or, map, cond, inl, inr, refl, sym, ap, ◌∙◌, arith, length-append}
use Rattle.std.specs.List.{list_any}
use Rattle.std.proofs.lemmas.Bool.{cases_Bool}
use Rattle.std.proofs.lemmas.Cmp.{nat_list_eq_equiv}
use Rattle.std.proofs.lemmas.List.{map-append}
use Rattle.std.proofs.lemmas.Map.Views.{list_any-from_Contains, Contains-from_any}
use Rattle.std.proofs.lemmas.Slice.Eq.{bytes_eq-Decides}
use Rattle.std.proofs.Math.Seq.{take-append_seam, take-suc}
use Rattle.ci_dialect.specs.declared.slots.Slot.{Slot}
use Rattle.ci_dialect.specs.declared.slots.Slot.TheVariants.{Word, Open}
use Rattle.ci_dialect.specs.Words.{behind_noise, closed, is_noise, slot_before, slot_of}
use Rattle.ci_query.specs.Words.{with_slot}

-- a word is noise where the list has it
pub noise_is : (noise : List (List ℕ)) (word : List ℕ) (b : Bool) → IsTrue b ↔ Contains noise word → b ≡ is_noise noise word
noise_is noise word true has = sym (list_any-from_Contains nat_list_eq_equiv word noise (has.0 refl))
noise_is noise word false has =
    elim (cases_Bool (list_any (bytes_eq word) noise)) [
      | inl found ↦ let wrong = has.1 (Contains-from_any (λ x y. (bytes_eq-Decides x y).0) word noise found) in cc
      | inr none ↦ sym none
    ]

with_slot-some : (s : Slot) (ss : List Slot) (t : Slot) → with_slot (s ∷ ss) t ≡ s ∷ ss ++ t ∷ []
with_slot-some s ss Open = refl
with_slot-some s ss (Word word) = refl

-- the places of words from the first on that isn't noise
abbrev pub begun : List (List ℕ) → List (List ℕ) → List Slot
begun noise words = map (slot_of noise) (behind_noise noise words)

begun-one : (noise : List (List ℕ)) (word : List ℕ) → begun noise (word ∷ []) ≡ with_slot [] (slot_of noise word)
begun-one noise word =
    elim (cases_Bool (is_noise noise word)) [
      | inl noisy ↦ rw noisy refl
      | inr other ↦ rw (other, other) refl
    ]

begun-push : (noise xs : List (List ℕ)) (word : List ℕ) → begun noise (xs ++ word ∷ []) ≡ with_slot (begun noise xs) (slot_of noise word)
begun-push noise [] word = begun-one noise word
begun-push noise (x ∷ xs) word =
    elim (is_noise noise x) as (λ b. map (slot_of noise) (cond b (behind_noise noise (xs ++ word ∷ [])) (x ∷ xs ++ word ∷ [])) ≡ with_slot (map (slot_of noise) (cond b (behind_noise noise xs) (x ∷ xs))) (slot_of noise word)) [
      | true ↦ begun-push noise xs word
      | false ↦ map-append (slot_of noise) (x ∷ xs) (word ∷ []) ∙ sym (with_slot-some (slot_of noise x) (map (slot_of noise) xs) (slot_of noise word))
    ]

-- one word more
pub begun-next : (noise words : List (List ℕ)) (i : ℕ) (word : List ℕ) → i < length words → word ≡ get_or words i word → begun noise (take (i + 1) words) ≡ with_slot (begun noise (take i words)) (slot_of noise word)
begun-next noise words i word within is =
    let one : i + 1 ≡ suc i = omega arith in
    ap (λ n. begun noise (take n words)) one
    ∙ ap (begun noise) (take-suc words i word within ∙ ap (λ x. take i words ++ x ∷ []) (sym is))
    ∙ begun-push noise (take i words) word

-- an open place at the end says nothing
closed-push : (front : List Slot) → closed (front ++ Open ∷ []) ≡ closed front
closed-push [] = refl
closed-push (slot ∷ more) = ap (slot_before slot) (closed-push more)

pub closed-pop : (old new front : List Slot) → old ≡ front ++ Open ∷ [] → new ≡ take (length old - 1) old → closed new ≡ closed old
closed-pop old new front ends rest =
    let size : length old - 1 ≡ length front = omega (arith, ap length ends, length-append front (Open ∷ [])) in
    ap closed (rest ∙ ap (λ n. take n old) size ∙ ap (take (length front)) ends ∙ take-append_seam front (Open ∷ []))
    ∙ sym (ap closed ends ∙ closed-push front)

-- places that don't end with an open one
pub closed-shut : (slots : List Slot) → ((front : List Slot) → slots ≡ front ++ Open ∷ [] → ⊥) → closed slots ≡ slots
closed-shut [] shut = refl
closed-shut (Word word ∷ more) shut = ap (λ ss. Word word ∷ ss) (closed-shut more (λ front ends. shut (Word word ∷ front) (ap (λ ss. Word word ∷ ss) ends)))
closed-shut (Open ∷ []) shut = absurd (shut [] refl)
closed-shut (Open ∷ slot ∷ more) shut = ap (slot_before Open) (closed-shut (slot ∷ more) (λ front ends. shut (Open ∷ front) (ap (λ ss. Open ∷ ss) ends)))
