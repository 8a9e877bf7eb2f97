-- Whether a batch is out behind one more event.
use Rattle.std.proofs.Common.{arith, ◌≡◌, ◌∙◌, ◌==◌, ◌↔◌, ℕ, not, Bool, true, false, List, [], ◌∷◌, ◌++◌, Contains, filter, ⊎_elim, refl, ap, subst, sym}
use Rattle.std.proofs.lemmas.Bool.Decides.{nat_tests}
use Rattle.ci_change.specs.declared.batch.Batch.{Batch}
use Rattle.ci_keys.proofs.OneForm.{Contains-cons_cases, Contains-first, Contains-later, none_in_empty}

-- behind one that is begun
pub Contains-pushed : (outs : List Batch) (begun batch : Batch) (same : Bool) → ¬ Contains outs batch → (same ≡ true) ↔ (begun ≡ batch) → (same ≡ true) ↔ Contains (outs ++ begun ∷ []) batch
Contains-pushed [] begun batch same not_out is = (
  λ e. subst (λ (b : Batch). Contains (b ∷ []) batch) (sym (is.0 e)) (Contains-first batch []),
  λ here. ⊎_elim (λ first. is.1 first) (λ later. absurd (none_in_empty batch later)) (Contains-cons_cases begun [] batch here),
)
Contains-pushed (b ∷ outs) begun batch same not_out is =
    let rest = Contains-pushed outs begun batch same (λ here. not_out (Contains-later b outs batch here)) is in (
      λ e. Contains-later b (outs ++ begun ∷ []) batch (rest.0 e),
      λ here. ⊎_elim (λ (first : b ≡ batch). absurd (not_out (subst (λ (x : Batch). Contains (b ∷ outs) x) first (Contains-first b outs)))) (λ later. rest.1 later) (Contains-cons_cases b (outs ++ begun ∷ []) batch here),
    )

-- what passes a test, among those that pass it
has-filter : (test : Batch → Bool) (outs : List Batch) (batch : Batch) → test batch ≡ true → Contains outs batch → Contains (filter test outs) batch
has-filter test [] batch passes here = absurd (none_in_empty batch here)
has-filter test (b ∷ outs) batch passes here = by (has-filter test outs batch passes) (test b) refl
  where
    by : (Contains outs batch → Contains (filter test outs) batch) → (t : Bool) → test b ≡ t → Contains (filter test (b ∷ outs)) batch
    by rest true e =
        rw e (⊎_elim (λ (first : b ≡ batch). subst (λ (x : Batch). Contains (b ∷ filter test outs) x) first (Contains-first b (filter test outs)))
        (λ later. Contains-later b (filter test outs) batch (rest later)) (Contains-cons_cases b outs batch here))
    by rest false e =
        rw e (⊎_elim (λ (first : b ≡ batch). absurd (let p : true ≡ false = sym passes ∙ ap test (sym first) ∙ e in cc)) rest (Contains-cons_cases b outs batch here))

filter-has : (test : Batch → Bool) (outs : List Batch) (batch : Batch) → Contains (filter test outs) batch → Contains outs batch × (test batch ≡ true)
filter-has test [] batch here = absurd (none_in_empty batch here)
filter-has test (b ∷ outs) batch here = by (filter-has test outs batch) (test b) refl
  where
    by : (Contains (filter test outs) batch → Contains outs batch × (test batch ≡ true)) → (t : Bool) → test b ≡ t → Contains (b ∷ outs) batch × (test batch ≡ true)
    by rest true e =
        let there = rw e at here in
        ⊎_elim (λ (first : b ≡ batch). subst (λ (x : Batch). Contains (b ∷ outs) x × (test x ≡ true)) first (Contains-first b outs, e))
        (λ later. let more = rest later in (Contains-later b outs batch more.0, more.1)) (Contains-cons_cases b (filter test outs) batch there)
    by rest false e = let there = rw e at here in let more = rest there in (Contains-later b outs batch more.0, more.1)

flip_eq : (m n : ℕ) → (m == n) ≡ (n == m)
flip_eq m n = grind (arith, nat_tests)

-- behind one that is done, where it was out
pub Contains-left : (outs : List Batch) (number : ℕ) (batch : Batch) → Contains outs batch → (not (number == batch.number) ≡ true) ↔ Contains (filter (λ (b : Batch). not (b.number == number)) outs) batch
Contains-left outs number batch here = (
  λ other. has-filter (λ (b : Batch). not (b.number == number)) outs batch (ap not (flip_eq batch.number number) ∙ other) here,
  λ left. ap not (flip_eq number batch.number) ∙ (filter-has (λ (b : Batch). not (b.number == number)) outs batch left).1,
)

-- and where it wasn't
pub not-left : (outs : List Batch) (number : ℕ) (batch : Batch) → ¬ Contains outs batch → ¬ Contains (filter (λ (b : Batch). not (b.number == number)) outs) batch
not-left outs number batch not_out left = not_out (filter-has (λ (b : Batch). not (b.number == number)) outs batch left).0
