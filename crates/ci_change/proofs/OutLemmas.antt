-- Which paths are in a batch that is out, as the rows of a register tell it.
use Rattle.std.proofs.Common.{◌≡◌, ◌==◌, ◌&&◌, ◌||◌, ◌+◌, ◌≤◌, ℕ, nat_lt, IsTrue, Bool, true, false, not, cond, List, [], ◌∷◌, ◌++◌, All, filter, take, length, length-append, get_or, suc, suc-le-suc, bytes_eq, refl, sym, ap, subst, ◌∙◌, arith, if◌then◌else◌}
use Rattle.std.proofs.lemmas.Bool.Decides.{nat_tests}
use Rattle.std.proofs.lemmas.List.Elements.{All-filter, All-map, All-take, filter-append, filter_agree, filter_passes}
use Rattle.std.proofs.lemmas.List.Filters.{length-filter_both}
use Rattle.std.proofs.lemmas.List.Folds.{list_any-append}
use Rattle.std.proofs.lemmas.Slice.Eq.{bytes_eq-Decides}
use Rattle.ci_base.specs.declared.numbers.Seq.{Seq}
use Rattle.ci_change.specs.declared.batch.Batch.{Batch}
use Rattle.ci_change.specs.declared.notice.Notice.{Notice}
use Rattle.ci_change.specs.declared.rows.Numbers.{Numbers}
use Rattle.ci_change.specs.ChangeList.{IsMarked, IsUpToDate}
use Rattle.ci_change.specs.HandedIn.{History, numbered}
use Rattle.ci_change.specs.Pending.{docs_of, has_path, is_change, is_changed, is_free, is_out, is_set_aside, is_unserved, unserved_of}
use Rattle.ci_change.specs.Register.{Kept, is_spare, IsOwn, Marks}
use Rattle.ci_change.specs.Rows.{has_row, numbers_at}
use Rattle.ci_change.proofs.FilterLemmas.{any-filter, filter-fused, filter-swapped}
use Rattle.ci_change.proofs.MarkLemmas.{has_row-by}
use Rattle.ci_change.proofs.UnservedLemmas.{unserved-above, unserved-has_latest, unserved-is_latest}

-- a path of a document of free notices is in no batch that is out
module _ (out : List Batch) (path : List ℕ) where
  not-out : (c o : Bool) → (c && not o) ≡ true → o ≡ false
  not-out c true is = let no : (c && false) ≡ true = is in none c no
    where
      none : (b : Bool) → (b && false) ≡ true → true ≡ false
      none true is = sym is
      none false is = sym is
  not-out c false is = refl

  among-cons : (n : Notice) (ns : List Notice) (b : Bool) → bytes_eq n.path path ≡ b → is_free out n ≡ true → (has_path (docs_of ns) path ≡ true → is_out out path ≡ false)
      → (b || has_path (docs_of ns) path) ≡ true → is_out out path ≡ false
  among-cons n ns true same free rest has = ap (is_out out) (sym ((bytes_eq-Decides n.path path).0 same)) ∙ not-out (is_changed n.what) (is_out out n.path) free
  among-cons n ns false other free rest has = rest has

  among : (ns : List Notice) → All (λ n. is_free out n ≡ true) ns → has_path (docs_of ns) path ≡ true → is_out out path ≡ false
  among [] all has = let no : false ≡ true = has in cc
  among (n ∷ ns) all has = among-cons n ns (bytes_eq n.path path) refl (all 0 n (omega arith)) (among ns (λ k d within. all (suc k) d (suc-le-suc within))) has

module _ (past : History) (kept : Kept) (retries : ℕ) (up : IsUpToDate past kept retries) where
  abbrev waiting : List Notice
  waiting = filter (λ n. not (is_set_aside retries past.charges past.refusals n)) (unserved_of past.notices past.served)

  -- what holds of each unserved notice holds of those that wait, and of the ready ones
  All-waiting : (P : Notice → Type 0) → All (λ n. is_unserved past.notices past.served n ≡ true → P n) past.notices → All P waiting
  All-waiting P all =
      All-filter _ P (unserved_of past.notices past.served)
      (λ k d within. All-filter _ (λ n. is_unserved past.notices past.served n ≡ true → P n) past.notices all k d within (filter_passes (is_unserved past.notices past.served) past.notices k d within))

  -- a path's ready notices are those with the number of its latest one
  pub own_notices : (path : List ℕ) → IsOwn kept path
  own_notices path =
      let P : Notice → Type 0 = λ n. (n.seq.0 == (numbers_at kept.rows path).latest) ≡ bytes_eq n.path path in
      let all : All (λ n. is_unserved past.notices past.served n ≡ true → (n.seq.0 == (numbers_at kept.rows path).latest) ≡ bytes_eq n.path path) past.notices =
      rw (up.latest path) (unserved-has_latest past.notices past.served path up.ascending) in
      subst (All P) (sym up.ready) (All-filter is_change P waiting (All-waiting P all))

  -- each path that waits has a row
  All-rows : All (λ n. IsTrue (has_row kept.rows n.path)) waiting
  All-rows = All-waiting (λ n. IsTrue (has_row kept.rows n.path)) (λ k d within unserved.
      let n = get_or past.notices k d in
      let some = unserved-above past.notices past.served n unserved in
      let number : n.seq.0 ≡ (numbers_at kept.rows n.path).latest = unserved-is_latest past.notices past.served n unserved ∙ sym (up.latest n.path) in
      has_row-by (λ numbers. nat_lt 0 numbers.latest) kept.rows n.path refl (grind (arith, nat_tests, some, number)))

  -- a register whose paths are marked is as up to date
  pub IsUpToDate-marked : (new : Kept) (test : List ℕ → Bool) (mark : Bool) → Marks kept new test mark → IsUpToDate past new retries
  IsUpToDate-marked new test mark marks = record {
    latest = λ path. ap (λ (n : Numbers). n.latest) (marks.numbers path) ∙ up.latest path;
    served = λ path. ap (λ (n : Numbers). n.served) (marks.numbers path) ∙ up.served path;
    attempts = λ path. ap (λ (n : Numbers). n.attempts) (marks.numbers path) ∙ up.attempts path;
    refused = λ path. ap (λ (n : Numbers). n.refused) (marks.numbers path) ∙ up.refused path;
    known = λ path told. marks.rows path (up.known path told);
    unserved = marks.unserved ∙ up.unserved;
    ready = marks.ready ∙ up.ready;
    ascending = up.ascending;
    charged = up.charged;
    rejected = up.rejected;
  }

  module _ (out : List Batch) (marked : IsMarked kept out) where
    -- the ready notices that are in no batch that is out are free
    pub free-of_marks : filter (is_spare kept.rows) kept.ready ≡ filter (is_free out) waiting
    free-of_marks =
        filter_agree (is_spare kept.rows) (λ n. not (is_out out n.path)) (λ n. ap not (marked.marks n.path)) kept.ready ∙ ap (filter (λ n. not (is_out out n.path))) up.ready
        ∙ sym (filter-fused (is_free out) is_change (λ n. not (is_out out n.path)) waiting (λ k d within. refl))

    module _ (most : ℕ) (docs : List (List ℕ × Seq)) (are : docs ≡ docs_of (take most (filter (is_free out) waiting))) where
      -- each of their paths has a row
      pub taken_rows : All (λ d. IsTrue (has_row kept.rows d.0)) docs
      taken_rows =
          let P : List ℕ × Seq → Type 0 = λ d. IsTrue (has_row kept.rows d.0) in
          let Q : Notice → Type 0 = λ n. IsTrue (has_row kept.rows n.path) in
          subst (All P) (sym are) (All-map P _ _ (All-take Q most _ (All-filter (is_free out) Q waiting All-rows)))

      -- and is in no batch that is out
      taken_apart : (path : List ℕ) → has_path docs path ≡ true → is_out out path ≡ false
      taken_apart path has =
          among out path (take most (filter (is_free out) waiting))
          (All-take (λ n. is_free out n ≡ true) most _ (filter_passes (is_free out) waiting)) (ap (λ ds. has_path ds path) (sym are) ∙ has)

      -- once they are marked, they are out
      pub IsMarked-taken : (new : Kept) (batch : Batch) → batch.docs ≡ docs → Marks kept new (has_path docs) true → IsMarked new (out ++ batch ∷ [])
      IsMarked-taken new batch same marks = record { marks = now; apart = alone }
        where
          holds : List ℕ → Batch → Bool
          holds path b = has_path b.docs path

          here : (path : List ℕ) → holds path batch ≡ has_path docs path
          here path = ap (λ ds. has_path ds path) same

          either : (o h : Bool) → (if h then true else o) ≡ (o || (h || false))
          either true true = refl
          either true false = refl
          either false true = refl
          either false false = refl

          now : (path : List ℕ) → (numbers_at new.rows path).is_out ≡ is_out (out ++ batch ∷ []) path
          now path =
              ap (λ (n : Numbers). n.is_out) (marks.numbers path) ∙ ap (λ o. if has_path docs path then true else o) (marked.marks path)
              ∙ either (is_out out path) (has_path docs path) ∙ ap (λ h. is_out out path || (h || false)) (sym (here path)) ∙ sym (list_any-append (holds path) out (batch ∷ []))

          count : (path : List ℕ) (h : Bool) → has_path docs path ≡ h → length (filter (holds path) out) + length (cond h (batch ∷ []) []) ≤ 1
          count path true has =
              let none = sym (any-filter (holds path) out) ∙ taken_apart path has in
              let zero : length (filter (holds path) out) ≡ 0 = grind (arith, nat_tests, none) in omega (arith, zero)
          count path false has = omega (arith, marked.apart path)

          alone : (path : List ℕ) → length (filter (holds path) (out ++ batch ∷ [])) ≤ 1
          alone path =
              let both = ap length (filter-append (holds path) out (batch ∷ [])) ∙ length-append (filter (holds path) out) _ ∙ ap (λ h. length (filter (holds path) out) + length (cond h (batch ∷ []) [])) (here path) in
              let few = count path (has_path docs path) refl in omega (arith, both, few)

-- ---- the marks of a register that keeps them, and of one that takes some back

module _ (kept new : Kept) (out : List Batch) (marked : IsMarked kept out) where
  pub IsMarked-still : ((path : List ℕ) → (numbers_at new.rows path).is_out ≡ (numbers_at kept.rows path).is_out) → IsMarked new out
  IsMarked-still same = record { marks = λ path. same path ∙ marked.marks path; apart = marked.apart }

  abbrev holds_path : List ℕ → Batch → Bool
  holds_path path b = has_path b.docs path

  module _ (number : ℕ) where
    abbrev others : List Batch
    others = filter (λ b. not (b.number == number)) out

    given : (a b : ℕ) → a + b ≤ 1 → (if not (a == 0) then false else not (a + b == 0)) ≡ not (b == 0)
    given a b few = grind (arith, nat_tests, few)

    split : (path : List ℕ) → length (filter (holds_path path) (numbered number out)) + length (filter (holds_path path) others) ≡ length (filter (holds_path path) out)
    split path =
        let holds = holds_path path in
        let is : Batch → Bool = λ b. b.number == number in
        ap (λ bs. length bs + length (filter holds others)) (filter-swapped holds is out)
        ∙ ap (λ bs. length (filter is (filter holds out)) + length bs) (filter-swapped holds (λ b. not (is b)) out)
        ∙ length-filter_both is (λ b. not (is b)) (λ b. refl) (filter holds out)

    -- what was in a batch with the number is in none that is out now
    pub IsMarked-given : Marks kept new (is_out (numbered number out)) false → IsMarked new others
    IsMarked-given marks = record { marks = now; apart = λ path. let few = marked.apart path in let parts = split path in omega (arith, few, parts) }
      where
        now : (path : List ℕ) → (numbers_at new.rows path).is_out ≡ is_out others path
        now path =
            let a = length (filter (holds_path path) (numbered number out)) in
            let b = length (filter (holds_path path) others) in
            let few = marked.apart path in
            let parts = split path in
            ap (λ (n : Numbers). n.is_out) (marks.numbers path) ∙ ap (λ o. if is_out (numbered number out) path then false else o) (marked.marks path ∙ any-filter (holds_path path) out)
            ∙ ap (λ n. if is_out (numbered number out) path then false else not (n == 0)) (sym parts)
            ∙ ap (λ o. if o then false else not (a + b == 0)) (any-filter (holds_path path) (numbered number out))
            ∙ given a b (omega (arith, few, parts)) ∙ sym (any-filter (holds_path path) others)
