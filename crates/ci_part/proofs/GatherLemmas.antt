-- What the parts that decide hold, gathered from one part after the other.
use Rattle.std.proofs.Common.{◌≡◌, ℕ, ◌+◌, ◌<◌, ◌≤◌, true, false, List, [], ◌∷◌, ◌++◌, length, map, take, All, Contains, Some, inl, inr, sym, ap, subst, ◌∙◌, arith}
use Rattle.std.specs.Prelude.{slice_get}
use Rattle.std.specs.Cmp.{nat_cmp_total}
use Rattle.std.specs.List.{IsDistinct}
use Rattle.std.specs.List.Sorted.{IsPermutation, IsSortedByKey}
use Rattle.std.specs.Ordering.{eq_by_cmp, is_eq, nat_cmp}
use Rattle.std.proofs.lemmas.Bool.{cases_Bool, cases_order}
use Rattle.std.proofs.lemmas.List.{map-append, take_more}
use Rattle.std.proofs.lemmas.List.Elements.{All-append, All-contains, All-nil, All-weaker, Contains-append_left, Contains-append_right, Contains-append_cases, Contains-push}
use Rattle.std.proofs.lemmas.List.Folds.{list_any_kept}
use Rattle.std.proofs.lemmas.List.Sorted.{Contains-permutation, IsPermutation-sym}
use Rattle.std.proofs.lemmas.Map.Keys.{IsDistinct-from_sorted}
use Rattle.std.proofs.lemmas.Option.{slice_get_within, get_or_from_slice_get}
use Rattle.ci_base.specs.declared.numbers.DocNo.{DocNo}
use Rattle.ci_keys.specs.Order.{Ascends}
use Rattle.ci_keys.proofs.OneForm.{none_in_empty}
use Rattle.ci_wordlist.specs.WordList.{WordLists}
use Rattle.ci_wordlist.proofs.OrderLemmas.{Contains-unmap}
use Rattle.ci_part.specs.Covering.{covers, is_covered}
use Rattle.ci_part.specs.View.{Covers, Decides}
use Rattle.ci_part.proofs.CoverLemmas.{covered_by, none_covers, not_covered}
use Rattle.ci_part.proofs.ListLemmas.{distinct_append, rising}

-- held by the part that decides, which is one of the first
abbrev pub HeldBefore : {X : Type 0} → (X → DocNo) → (WordLists → X → Type 0) → List WordLists → ℕ → X → Type 0
HeldBefore of Holds parts n x = (part : WordLists) × Holds part x × (decides : Decides parts part (of x)) × (decides.place < n)

-- what the first parts hold
pub record IsGathered {X : Type 0} (of : X → DocNo) (Holds : WordLists → X → Type 0) (parts : List WordLists) (n : ℕ) (all : List X) : Type 0 where
  pub sound : (x : X) → Contains all x → HeldBefore of Holds parts n x
  pub whole : (x : X) → HeldBefore of Holds parts n x → Contains all x
  pub distinct : IsDistinct (eq_by_cmp nat_cmp) (map (λ x. (of x).0) all)
  pub covered : All (λ x. is_covered (take n parts) (of x) ≡ true) all

-- what one part adds
pub record IsAdded {X : Type 0} (of : X → DocNo) (Holds : WordLists → X → Type 0) (newer : List WordLists) (part : WordLists) (added : List X) : Type 0 where
  pub sound : (x : X) → Contains added x → Holds part x × (is_covered newer (of x) ≡ false)
  pub whole : (x : X) → Holds part x → is_covered newer (of x) ≡ false → Contains added x
  pub ascend : Ascends (λ x. (of x).0) nat_cmp added
  pub covered : All (λ x. Covers part (of x)) added

same_part : (a b : WordLists) → Some a ≡ Some b → a ≡ b
same_part a b e = cc

same_number : (a b : DocNo) → a.0 ≡ b.0 → a ≡ b
same_number a b e = λ i. record { 0 = e i }

tied_numbers : (a b : ℕ) → is_eq (nat_cmp a b) ≡ true → a ≡ b
tied_numbers a b tied = grind (arith, tied)

none_differ : IsDistinct (eq_by_cmp nat_cmp) []
unfolding IsDistinct
none_differ = tt

module _ {X : Type 0} (of : X → DocNo) (Holds : WordLists → X → Type 0) (parts : List WordLists) where
  pub gathered_none : (all : List X) → all ≡ [] → IsGathered of Holds parts 0 all
  gathered_none all none = subst (IsGathered of Holds parts 0) (sym none) (record {
    sound = λ x has. absurd (none_in_empty x has);
    whole = λ x held. let (part, has, decides, before) = held in absurd (omega (arith, before));
    distinct = none_differ;
    covered = All-nil (λ (x : X). is_covered [] (of x) ≡ true);
  })

module _ {X : Type 0} (of : X → DocNo) (Holds : WordLists → X → Type 0) (parts : List WordLists) (n : ℕ) (part : WordLists) (there : slice_get parts n ≡ Some part)
    (all added : List X) (so_far : IsGathered of Holds parts n all) (adds : IsAdded of Holds (take n parts) part added) where
  taken_more : take (n + 1) parts ≡ take n parts ++ part ∷ []
  taken_more = take_more parts n part (slice_get_within parts n part there) ∙ ap (λ p. take n parts ++ p ∷ []) (get_or_from_slice_get parts n part part there)

  sound_more : (x : X) → Contains (all ++ added) x → HeldBefore of Holds parts (n + 1) x
  sound_more x has =
      elim (Contains-append_cases all added x has) [
        | inl early ↦ let (p, held, decides, before) = so_far.sound x early in (p, held, decides, omega (arith, before))
        | inr late ↦
            let (held, free) = adds.sound x late in
            let decides : Decides parts part (of x) = record { place = n; there = there; newer = none_covers (take n parts) (of x) free } in
            (part, held, decides, omega arith)
      ]

  whole_more : (x : X) → HeldBefore of Holds parts (n + 1) x → Contains (all ++ added) x
  whole_more x (p, held, decides, before) =
      elim (cases_order decides.place n) [
        | inl last ↦
            let is : p ≡ part = same_part p part (sym decides.there ∙ ap (slice_get parts) last ∙ there) in
            let free = not_covered (take n parts) (of x) (subst (λ m. All (λ newer. ¬ Covers newer (of x)) (take m parts)) last decides.newer) in
            Contains-append_right all added x (adds.whole x (subst (λ q. Holds q x) is held) free)
        | inr (inl early) ↦ Contains-append_left all added x (so_far.whole x (p, held, decides, early))
        | inr (inr late) ↦ absurd (omega (arith, before, late))
      ]

  apart : (a b : ℕ) → Contains (map (λ x. (of x).0) all) a → Contains (map (λ x. (of x).0) added) b → eq_by_cmp nat_cmp a b ≡ false
  apart a b early late =
      elim (cases_Bool (is_eq (nat_cmp a b))) [
        | inl tied ↦
            let (x, x_there, x_is) = Contains-unmap (λ (x : X). (of x).0) all a early in
            let (y, y_there, y_is) = Contains-unmap (λ (x : X). (of x).0) added b late in
            let same : of x ≡ of y = same_number (of x) (of y) (x_is ∙ tied_numbers a b tied ∙ sym y_is) in
            let yes : is_covered (take n parts) (of x) ≡ true = All-contains (λ (x : X). is_covered (take n parts) (of x) ≡ true) all x so_far.covered x_there in
            let no : is_covered (take n parts) (of y) ≡ false = (adds.sound y y_there).1 in
            let both : true ≡ false = sym yes ∙ ap (is_covered (take n parts)) same ∙ no in
            cc
        | inr differ ↦ differ
      ]

  distinct_more : IsDistinct (eq_by_cmp nat_cmp) (map (λ x. (of x).0) (all ++ added))
  distinct_more =
      let docs : List X → List ℕ = map (λ (x : X). (of x).0) in
      subst (IsDistinct (eq_by_cmp nat_cmp)) (sym (map-append (λ (x : X). (of x).0) all added))
      (distinct_append (eq_by_cmp nat_cmp) (docs all) (docs added) so_far.distinct (IsDistinct-from_sorted nat_cmp (docs added) adds.ascend) apart)

  covered_more : All (λ x. is_covered (take (n + 1) parts) (of x) ≡ true) (all ++ added)
  covered_more =
      let P = λ (x : X). is_covered (take (n + 1) parts) (of x) ≡ true in
      let among : Contains (take (n + 1) parts) part = subst (λ ps. Contains ps part) (sym taken_more) (Contains-push (take n parts) part) in
      All-append P all added
      (All-weaker (λ (x : X). is_covered (take n parts) (of x) ≡ true) P (λ x is. list_any_kept (covers (of x)) parts n is) all so_far.covered)
      (All-weaker (λ (x : X). Covers part (of x)) P (λ x is. covered_by (take (n + 1) parts) part (of x) among is) added adds.covered)

  pub gathered_more : IsGathered of Holds parts (n + 1) (all ++ added)
  gathered_more = record { sound = sound_more; whole = whole_more; distinct = distinct_more; covered = covered_more }

-- all parts were gathered, and what they hold was moved
module _ {X : Type 0} (of : X → DocNo) (Holds : WordLists → X → Type 0) (parts : List WordLists) (n : ℕ) (all : List X) (gathered : IsGathered of Holds parts n all) (end : length parts ≤ n)
    (moved : List X) (moves : IsPermutation all moved) where
  pub moved_sound : (x : X) → Contains moved x → (part : WordLists) × Holds part x × Decides parts part (of x)
  moved_sound x has =
      let (part, there, decides, before) = gathered.sound x (Contains-permutation moved all x (IsPermutation-sym all moved moves) has) in
      (part, there, decides)

  pub moved_whole : (x : X) → (part : WordLists) × Holds part x × Decides parts part (of x) → Contains moved x
  moved_whole x (part, there, decides) =
      let within = slice_get_within parts decides.place part decides.there in
      Contains-permutation all moved x moves (gathered.whole x (part, there, decides, omega (arith, within, end)))

  pub documents_ascend : IsSortedByKey (λ x. (of x).0) nat_cmp moved → Ascends (λ x. (of x).0) nat_cmp moved
  documents_ascend up = rising nat_cmp_total (λ (x : X). (of x).0) all moved moves gathered.distinct up
