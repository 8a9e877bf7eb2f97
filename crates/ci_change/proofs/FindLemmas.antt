-- The unserved notice with a number, among those of an order.
use Rattle.std.proofs.Common.{◌≡◌, ◌==◌, ℕ, Bool, true, false, cond, List, [], ◌∷◌, map, length, option_to_list, is_some, Option, None, Some, refl, sym, ap, subst, ◌∙◌, arith, Less}
use Rattle.std.proofs.lemmas.List.{length-map}
use Rattle.std.proofs.lemmas.Bool.Decides.{nat_tests}
use Rattle.std.specs.BTreeMap.{is_at}
use Rattle.std.specs.List.{AllByRecursion}
use Rattle.std.specs.List.Sorted.{IsStrictlySortedBy}
use Rattle.std.specs.Map.{keys_of, lookup}
use Rattle.std.specs.Option.{option_map}
use Rattle.std.specs.Ordering.{nat_cmp}
use Rattle.ci_base.specs.declared.numbers.Seq.{Seq}
use Rattle.ci_change.specs.declared.notice.What.{What}
use Rattle.ci_change.specs.declared.order.Entry.{Entry}
use Rattle.ci_change.specs.declared.rows.Numbers.{Numbers}
use Rattle.ci_change.specs.Pending.{kinds, with_number}
use Rattle.ci_change.specs.Register.{notice_at}
use Rattle.ci_change.proofs.OrderLemmas.{apart-from_less, is_at-nat_cmp}

abbrev pub kind_at : ℕ → Entry → Seq × What
kind_at number entry = (record { 0 = number }, entry.what)

module _ (rows : List (List ℕ × Numbers)) (k : ℕ) where
  -- where all numbers are above it, none is it
  none-above : (order : List (ℕ × Entry)) → AllByRecursion (λ n. nat_cmp k n ≡ Less) (keys_of order) → with_number k (map (notice_at rows) order) ≡ []
  none-above [] above = refl
  none-above (e ∷ order) above = rw (apart-from_less k e.0 above.0) (none-above order above.1)

  abbrev Found : List (ℕ × Entry) → Type 0
  Found order = kinds (with_number k (map (notice_at rows) order)) ≡ option_to_list (option_map (kind_at k) (lookup (is_at (nat_cmp k)) order))

  found-first : (e : ℕ × Entry) (order : List (ℕ × Entry)) (b : Bool) → (e.0 == k) ≡ b → AllByRecursion (λ n. nat_cmp e.0 n ≡ Less) (keys_of order) → Found order → Found (e ∷ order)
  found-first e order true same above rest =
      let at : e.0 ≡ k = grind (arith, nat_tests) in
      let alone = none-above order (subst (λ n. AllByRecursion (λ m. nat_cmp n m ≡ Less) (keys_of order)) at above) in
      rw (is_at-nat_cmp k e.0, same, alone) (ap (λ n. kind_at n e.1 ∷ []) at)
  found-first e order false other above rest = rw (is_at-nat_cmp k e.0, other) rest

  -- the notice with the number is that of the entry at it
  pub kinds-found : (order : List (ℕ × Entry)) → IsStrictlySortedBy nat_cmp (keys_of order) → Found order
  unfolding IsStrictlySortedBy
  kinds-found [] ordered = refl
  kinds-found (e ∷ order) ordered = found-first e order _ refl ordered.0 (kinds-found order ordered.1)

abbrev pub one_if : Bool → ℕ
one_if b = cond b 1 0

-- so many have it: one where the order has the number
pub count-found : (rows : List (List ℕ × Numbers)) (k : ℕ) (order : List (ℕ × Entry)) (has : Bool) → IsStrictlySortedBy nat_cmp (keys_of order) → has ≡ is_some (lookup (is_at (nat_cmp k)) order)
    → length (with_number k (map (notice_at rows) order)) ≡ one_if has
count-found rows k order has ordered is =
    sym (length-map _ _) ∙ ap length (kinds-found rows k order ordered) ∙ by (lookup (is_at (nat_cmp k)) order) ∙ ap one_if (sym is)
  where
    by : (o : Option Entry) → length (option_to_list (option_map (kind_at k) o)) ≡ one_if (is_some o)
    by None = refl
    by (Some e) = refl
