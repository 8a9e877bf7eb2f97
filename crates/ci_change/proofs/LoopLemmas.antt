-- A walk through the entries of an order: left are those that are still to come, e is the next of them.
use Rattle.std.proofs.Common.{◌≡◌, ◌<◌, ◌-◌, ℕ, suc, suc-le-suc, Bool, true, false, cond, List, [], ◌∷◌, ◌++◌, All, filter, map, take, length, length-append, append_assoc, append-nil, slice_get, Some, sym, ap, subst, ◌∙◌, arith}
use Rattle.std.proofs.lemmas.Map.Entries.{length-keys_of}
use Rattle.std.proofs.lemmas.Option.{get_or_from_slice_get, slice_get-get_or}
use Rattle.std.specs.Map.{keys_of}
use Rattle.ci_base.specs.declared.numbers.Seq.{Seq}
use Rattle.ci_change.specs.declared.notice.Notice.{Notice}
use Rattle.ci_change.specs.declared.order.Entry.{Entry}
use Rattle.ci_change.specs.declared.rows.Numbers.{Numbers}
use Rattle.ci_change.specs.Pending.{docs_of}
use Rattle.ci_change.specs.Register.{notice_at}
use Rattle.ci_change.specs.Rows.{path_in}

module _ (e : ℕ × Entry) (left rest : List (ℕ × Entry)) (next : left ≡ e ∷ rest) where
  pub places-rest : (limit : ℕ) → All (λ f. f.1.place < limit) left → All (λ f. f.1.place < limit) rest
  places-rest limit all k d within =
      let P : List (ℕ × Entry) → Type 0 = λ es. All (λ (f : ℕ × Entry). f.1.place < limit) es in subst P next all (suc k) d (suc-le-suc within)

  pub place-next : (limit : ℕ) → All (λ f. f.1.place < limit) left → e.1.place < limit
  place-next limit all =
      let P : List (ℕ × Entry) → Type 0 = λ es. All (λ (f : ℕ × Entry). f.1.place < limit) es in subst P next all 0 e (omega arith)

  -- an entry whose place is a row's has the path there
  pub path-at : (rows : List (List ℕ × Numbers)) → All (λ f. f.1.place < length rows) left → slice_get (keys_of rows) e.1.place ≡ Some (path_in rows e.1.place)
  path-at rows all =
      let within = place-next (length rows) all in
      slice_get-get_or (keys_of rows) e.1.place [] (omega (arith, length-keys_of rows, within))

  module _ (rows : List (List ℕ × Numbers)) (path : List ℕ) (at : slice_get (keys_of rows) e.1.place ≡ Some path) where
    abbrev notice : Notice
    notice = record { path = path; seq = record { 0 = e.0 }; what = e.1.what }

    notices-next : map (notice_at rows) left ≡ notice ∷ map (notice_at rows) rest
    notices-next = ap (map (notice_at rows)) next ∙ ap (λ p. record { path = p; seq = record { 0 = e.0 }; what = e.1.what } ∷ map (notice_at rows) rest) (get_or_from_slice_get (keys_of rows) e.1.place path [] at)

    module _ {X : Type 0} (shown : Notice → X) (test : Notice → Bool) (list all : List X) (so_far : list ++ map shown (filter test (map (notice_at rows) left)) ≡ all) where
      abbrev others : List Notice
      others = filter test (map (notice_at rows) rest)

      with_first : (b : Bool) → test notice ≡ b → list ++ map shown (cond b (notice ∷ others) others) ≡ all
      with_first b is =
          ap (λ c. list ++ map shown (cond c (notice ∷ others) others)) (sym is)
          ∙ ap (λ ns. list ++ map shown (filter test ns)) (sym notices-next) ∙ so_far

      -- a notice that doesn't pass isn't listed
      pub listed-passed : test notice ≡ false → list ++ map shown (filter test (map (notice_at rows) rest)) ≡ all
      listed-passed is = with_first false is

      -- one that does is listed
      pub listed-next : test notice ≡ true → (list ++ shown notice ∷ []) ++ map shown (filter test (map (notice_at rows) rest)) ≡ all
      listed-next is = append_assoc list (shown notice ∷ []) (map shown others) ∙ with_first true is

    module _ (free : Notice → Bool) (docs all : List (List ℕ × Seq)) (most : ℕ) (taken : docs ++ docs_of (take (most - length docs) (filter free (map (notice_at rows) left))) ≡ all) where
      -- a notice that isn't free is passed over
      pub taken-passed : free notice ≡ false → docs ++ docs_of (take (most - length docs) (filter free (map (notice_at rows) rest))) ≡ all
      taken-passed busy =
          ap (λ b. docs ++ docs_of (take (most - length docs) (cond b (notice ∷ filter free (map (notice_at rows) rest)) (filter free (map (notice_at rows) rest))))) (sym busy)
          ∙ ap (λ ns. docs ++ docs_of (take (most - length docs) (filter free ns))) (sym notices-next)
          ∙ taken

      -- a free one is taken
      pub taken-free : length docs < most → free notice ≡ true
          → (docs ++ (path, record { 0 = e.0 }) ∷ []) ++ docs_of (take (most - length (docs ++ (path, record { 0 = e.0 }) ∷ [])) (filter free (map (notice_at rows) rest))) ≡ all
      taken-free room is_free =
          let doc : List ℕ × Seq = (path, record { 0 = e.0 }) in
          let others = filter free (map (notice_at rows) rest) in
          let count : most - length docs ≡ suc (most - length (docs ++ doc ∷ [])) = omega (arith, length-append docs (doc ∷ [])) in
          append_assoc docs (doc ∷ []) _
          ∙ ap (λ n. docs ++ docs_of (take n (notice ∷ others))) (sym count)
          ∙ ap (λ b. docs ++ docs_of (take (most - length docs) (cond b (notice ∷ others) others))) (sym is_free)
          ∙ ap (λ ns. docs ++ docs_of (take (most - length docs) (filter free ns))) (sym notices-next)
          ∙ taken

-- where there is no more room, all is taken
pub taken-full : (docs all : List (List ℕ × Seq)) (free : List Notice) (most : ℕ) → length docs ≡ most → docs ++ docs_of (take (most - length docs) free) ≡ all → docs ≡ all
taken-full docs all free most full taken =
    let none : most - length docs ≡ 0 = omega arith in sym (append-nil docs) ∙ ap (λ n. docs ++ docs_of (take n free)) (sym none) ∙ taken
