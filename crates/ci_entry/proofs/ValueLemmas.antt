-- The values of a transcript are in the order of their properties.
use Rattle.std.proofs.Common.{◌≡◌, ◌⊎◌, ℕ, List, [], ◌∷◌, Contains, Option, Some, None, slice_get, rules, inl, inr, refl, sym, ap, subst, ◌∙◌}
use Rattle.std.specs.declared.cmp.Ordering.TheVariants.{Less}
use Rattle.std.specs.List.{filter_map, cons_option}
use Rattle.std.specs.List.Sorted.{IsStrictlySortedBy}
use Rattle.std.specs.Option.{option_map}
use Rattle.std.specs.Ordering.{nat_cmp}
use Rattle.std.proofs.lemmas.List.Elements.{All-contains}
use Rattle.std.proofs.lemmas.Map.Keys.{sorted_tail}
use Rattle.std.proofs.lemmas.Map.Views.{All-after_first}
use Rattle.std.proofs.lemmas.Option.{same_Some}
use Rattle.ci_base.specs.declared.numbers.PropNo.{PropNo}
use Rattle.ci_base.specs.declared.value.Value.{Value}
use Rattle.ci_chunk.specs.declared.piece.Piece.{Piece}
use Rattle.ci_keys.specs.Entry.{IsValues}
use Rattle.ci_keys.specs.Order.{Ascends}
use Rattle.ci_keys.proofs.OneForm.{Contains-cons_cases, Contains-first, Contains-later, none_in_empty}
use Rattle.ci_entry.specs.Values.{first_value, right_values, valued, values_of}
use Rattle.ci_entry.proofs.OrderLemmas.{Ascends-cons, Ascends-nil}

-- what is read of numbers
module _ {Y : Type 0} (h : ℕ → Option Y) (number : Y → ℕ) (own : (n : ℕ) (y : Y) → h n ≡ Some y → number y ≡ n) where
  read_from : (n : ℕ) (o : Option Y) (ys : List Y) (y : Y) → h n ≡ o → Contains (cons_option o ys) y → (number y ≡ n) ⊎ Contains ys y
  read_from n None ys y is has = inr has
  read_from n (Some z) ys y is has =
      elim (Contains-cons_cases z ys y has) [ inl first ↦ inl (own n y (is ∙ ap Some first)) | inr later ↦ inr later ]

  -- each comes from one of them
  comes_from : (ns : List ℕ) (y : Y) → Contains (filter_map h ns) y → Contains ns (number y)
  comes_from [] y has = absurd (none_in_empty y has)
  comes_from (n ∷ ns) y has =
      elim (read_from n (h n) (filter_map h ns) y refl has) [
        | inl first ↦ subst (Contains (n ∷ ns)) (sym first) (Contains-first n ns)
        | inr later ↦ Contains-later n ns (number y) (comes_from ns y later)
      ]

  ascend_on : (n : ℕ) (o : Option Y) (ys : List Y) → h n ≡ o → ((y : Y) → Contains ys y → nat_cmp n (number y) ≡ Less) → Ascends number nat_cmp ys → Ascends number nat_cmp (cons_option o ys)
  ascend_on n None ys is below up = up
  ascend_on n (Some z) ys is below up = Ascends-cons number nat_cmp z ys (λ y has. ap (λ m. nat_cmp m (number y)) (own n z is) ∙ below y has) up

  -- so they are in the order of the numbers
  Ascends-filter_map : (ns : List ℕ) → IsStrictlySortedBy nat_cmp ns → Ascends number nat_cmp (filter_map h ns)
  Ascends-filter_map [] up = Ascends-nil number nat_cmp
  Ascends-filter_map (n ∷ ns) up =
      ascend_on n (h n) (filter_map h ns) refl (λ y has. All-contains (λ m. nat_cmp n m ≡ Less) ns (number y) (All-after_first nat_cmp n ns up) (comes_from ns y has)) (Ascends-filter_map ns (sorted_tail nat_cmp n ns up))

own_of : (n : ℕ) (found : Option Value) (value : PropNo × Value) → option_map {U = PropNo × Value} (λ v. (record { 0 = n }, v)) found ≡ Some value → value.0.0 ≡ n
own_of n None value is = cc
own_of n (Some v) value is = ap (λ (p : PropNo × Value). p.0.0) (sym (same_Some (record { 0 = n }, v) value is))

valued_ascend : IsStrictlySortedBy nat_cmp valued
unfolding IsStrictlySortedBy
valued_ascend = search rules

pub IsValues-values_of : (pieces : List Piece) → IsValues (values_of pieces)
IsValues-values_of pieces =
    Ascends-filter_map (first_value pieces) (λ value. value.0.0) (λ n value is. own_of n (slice_get (right_values n pieces) 0) value is) valued valued_ascend
