-- Entries by ascending numbers.
use Rattle.std.proofs.Common.{◌≡◌, ◌==◌, ℕ, ◌<◌, Bool, true, false, not, cond, List, [], ◌∷◌, ◌++◌, All, filter, suc, suc-le-suc, append-nil, refl, sym, ap, subst, ◌∙◌, arith, Less, Greater}
use Rattle.std.proofs.lemmas.Bool.Decides.{nat_tests}
use Rattle.std.proofs.lemmas.List.Elements.{filter-append}
use Rattle.std.specs.BTreeMap.{insert_entry, is_at}
use Rattle.std.specs.List.{AllByRecursion}
use Rattle.std.specs.List.Sorted.{IsStrictlySortedBy}
use Rattle.std.specs.Map.{keys_of, remove_entry}
use Rattle.std.specs.Ordering.{nat_cmp, match_ordering}

pub is_at-nat_cmp : (k n : ℕ) → is_at (nat_cmp k) n ≡ (n == k)
is_at-nat_cmp k n = grind (arith, nat_tests)

nat_cmp-greater : (k n : ℕ) → n < k → nat_cmp k n ≡ Greater
nat_cmp-greater k n below = grind (arith, nat_tests)

pub apart-from_less : (n m : ℕ) → nat_cmp n m ≡ Less → (m == n) ≡ false
apart-from_less n m less = grind (arith, nat_tests)

module _ {X : Type 0} where
  -- a number above all others goes last
  pub insert_entry-last : (es : List (ℕ × X)) (k : ℕ) (x : X) → All (λ e. e.0 < k) es → insert_entry nat_cmp es k x ≡ es ++ (k, x) ∷ []
  insert_entry-last [] k x below = refl
  insert_entry-last (e ∷ es) k x below =
      ap (λ o. match_ordering o ((k, x) ∷ e ∷ es) ((e.0, x) ∷ es) (e ∷ insert_entry nat_cmp es k x)) (nat_cmp-greater k e.0 (below 0 e (omega arith)))
      ∙ ap (λ t. e ∷ t) (insert_entry-last es k x (λ i d within. below (suc i) d (suc-le-suc within)))

  filter-others : (es : List (ℕ × X)) (k : ℕ) → AllByRecursion (λ n. nat_cmp k n ≡ Less) (keys_of es) → filter (λ e. not (e.0 == k)) es ≡ es
  filter-others [] k above = refl
  filter-others (e ∷ es) k above =
      ap (λ b. cond (not b) (e ∷ filter (λ f. not (f.0 == k)) es) (filter (λ f. not (f.0 == k)) es)) (apart-from_less k e.0 above.0)
      ∙ ap (λ t. e ∷ t) (filter-others es k above.1)

  remove_entry-first : (e : ℕ × X) (es : List (ℕ × X)) (k : ℕ) (b : Bool) → (e.0 == k) ≡ b → AllByRecursion (λ n. nat_cmp e.0 n ≡ Less) (keys_of es)
      → remove_entry (is_at (nat_cmp k)) es ≡ filter (λ f. not (f.0 == k)) es → remove_entry (is_at (nat_cmp k)) (e ∷ es) ≡ filter (λ f. not (f.0 == k)) (e ∷ es)
  remove_entry-first e es k true same above rest =
      let at : e.0 ≡ k = grind (arith, nat_tests) in
      rw (is_at-nat_cmp k e.0, same) (sym (filter-others es k (subst (λ n. AllByRecursion (λ m. nat_cmp n m ≡ Less) (keys_of es)) at above)))
  remove_entry-first e es k false other above rest = rw (is_at-nat_cmp k e.0, other) (ap (λ t. e ∷ t) rest)

  -- no number stands twice, so without the first entry that has it there is none
  pub remove_entry-filter : (es : List (ℕ × X)) (k : ℕ) → IsStrictlySortedBy nat_cmp (keys_of es) → remove_entry (is_at (nat_cmp k)) es ≡ filter (λ e. not (e.0 == k)) es
  unfolding IsStrictlySortedBy
  remove_entry-filter [] k ordered = refl
  remove_entry-filter (e ∷ es) k ordered = remove_entry-first e es k _ refl ordered.0 (remove_entry-filter es k ordered.1)

  -- a number above all others is that of none
  pub without-newest : (es : List (ℕ × X)) (k : ℕ) → All (λ e. e.0 < k) es → filter (λ e. not (e.0 == k)) es ≡ es
  without-newest [] k below = refl
  without-newest (e ∷ es) k below =
      let first = below 0 e (omega arith) in
      let other : (e.0 == k) ≡ false = grind (arith, nat_tests, first) in
      ap (λ b. cond (not b) (e ∷ filter (λ f. not (f.0 == k)) es) (filter (λ f. not (f.0 == k)) es)) other
      ∙ ap (λ t. e ∷ t) (without-newest es k (λ i d within. below (suc i) d (suc-le-suc within)))

  -- what was appended is taken out again
  pub without-appended : (es : List (ℕ × X)) (k : ℕ) (x : X) → All (λ e. e.0 < k) es → filter (λ e. not (e.0 == k)) (es ++ (k, x) ∷ []) ≡ es
  without-appended es k x below =
      let same : (k == k) ≡ true = grind (arith, nat_tests) in
      filter-append (λ e. not (e.0 == k)) es ((k, x) ∷ []) ∙ ap (λ b. filter (λ e. not (e.0 == k)) es ++ cond (not b) ((k, x) ∷ []) []) same
      ∙ append-nil (filter (λ e. not (e.0 == k)) es) ∙ without-newest es k below
