-- The rows of the documents that are there.
use Rattle.std.proofs.Common.{◌≡◌, ℕ, ◌+◌, ◌<◌, ◌≤◌, Bool, true, false, List, [], ◌∷◌, ◌++◌, length, map, take, get_or, Contains, Some, not, ◌&&◌, inl, inr, refl, sym, ap, subst, ◌∙◌, arith}
use Rattle.std.specs.Prelude.{slice_get}
use Rattle.std.specs.Cmp.{nat_cmp_total}
use Rattle.std.specs.Cmp.Lexicographic.{nat_list_cmp_total, slice_cmp}
use Rattle.std.specs.declared.cmp.Ordering.{Ordering}
use Rattle.std.specs.FinMap.{nat_cmp-IsAntisymmetric, slice_cmp-IsAntisymmetric}
use Rattle.std.specs.List.{IsDistinct}
use Rattle.std.specs.List.Sorted.{IsPermutation, IsSortedByKey}
use Rattle.std.specs.Ordering.{eq_by_cmp, is_eq, nat_cmp}
use Rattle.std.proofs.lemmas.Bool.{cases_Bool}
use Rattle.std.proofs.lemmas.Cmp.{tied_itself}
use Rattle.std.proofs.lemmas.List.{get_or-map, length-map}
use Rattle.std.proofs.lemmas.List.Elements.{All-filter, Contains-get_or}
use Rattle.std.proofs.lemmas.Map.Keys.{IsDistinct-from_apart, apart_from_distinct}
use Rattle.std.proofs.lemmas.Option.{slice_get_within, get_or_from_slice_get}
use Rattle.ci_base.specs.declared.numbers.DocNo.{DocNo}
use Rattle.ci_keys.proofs.OneForm.{Contains-map}
use Rattle.ci_rows_format.specs.declared.row.Row.{Row}
use Rattle.ci_wordlist.specs.Filing.{is_kept}
use Rattle.ci_wordlist.specs.WordList.{AreRows, WordLists}
use Rattle.ci_wordlist.proofs.OrderLemmas.{all_from}
use Rattle.ci_part.specs.Covering.{is_covered, live}
use Rattle.ci_part.specs.View.{AreLiveRows, Covers, HasKept, IsOneToOne}
use Rattle.ci_part.proofs.GatherLemmas.{IsAdded, IsGathered, gathered_more, gathered_none, moved_sound, moved_whole}
use Rattle.ci_part.proofs.ListLemmas.{Contains-filter, filter-Contains, is_equal, rising, up_filter}

none_differ : {K : Type 0} (R : K → K → Ordering) → IsDistinct (eq_by_cmp R) []
unfolding IsDistinct
none_differ R = tt

-- the rows of the first parts
abbrev pub AreRowsBefore : List WordLists → ℕ → List Row → Type 0
AreRowsBefore parts n all = IsGathered (λ row. row.doc) HasKept parts n all

both : (kept covered : Bool) → (kept && not covered) ≡ true → (kept ≡ true) × (covered ≡ false)
both true false e = (refl, refl)
both true true e = let no : false ≡ true = e in cc
both false covered e = let no : false ≡ true = e in cc

rows_added : (newer : List WordLists) (part : WordLists) → AreRows part.rows → IsAdded (λ row. row.doc) HasKept newer part (live newer part.rows)
rows_added newer part are =
    let p : Row → Bool = λ row. is_kept row.state && not (is_covered newer row.doc) in
    record {
      sound = λ row has. let (there, good) = Contains-filter p part.rows row has in let (kept, free) = both (is_kept row.state) (is_covered newer row.doc) good in ((there, kept), free);
      whole = λ row held free. filter-Contains p part.rows row held.0 (rw (held.1, free) refl);
      ascend = up_filter nat_cmp_total (λ (row : Row). row.doc.0) p part.rows are.ascend;
      covered = All-filter p (λ (row : Row). Covers part row.doc) part.rows (all_from (λ (row : Row). Covers part row.doc) part.rows (λ row there. Contains-map (λ (row : Row). row.doc) part.rows row there));
    }

pub rows_none : (parts : List WordLists) (all : List Row) → all ≡ [] → AreRowsBefore parts 0 all
rows_none parts all none = gathered_none (λ (row : Row). row.doc) HasKept parts all none

pub rows_more : (parts : List WordLists) (n : ℕ) (part : WordLists) → slice_get parts n ≡ Some part → AreRows part.rows → (all new : List Row) → AreRowsBefore parts n all → new ≡ all ++ live (take n parts) part.rows → AreRowsBefore parts (n + 1) new
rows_more parts n part there are all new so_far is =
    subst (AreRowsBefore parts (n + 1)) (sym is) (gathered_more (λ (row : Row). row.doc) HasKept parts n part there all (live (take n parts) part.rows) so_far (rows_added (take n parts) part are))

-- what is read of the elements differs
distinct_read : {X K : Type 0} (R : K → K → Ordering) (of : X → K) (xs : List X) → ((i j : ℕ) (d : X) → i < j → j < length xs → is_eq (R (of (get_or xs i d)) (of (get_or xs j d))) ≡ false) → IsDistinct (eq_by_cmp R) (map of xs)
distinct_read R of [] apart = none_differ R
distinct_read R of (x ∷ xs) apart = IsDistinct-from_apart (eq_by_cmp R) (map of (x ∷ xs)) (λ i j d lt within.
    let size : length (map of (x ∷ xs)) ≡ length (x ∷ xs) = length-map (x ∷ xs) of in
    let first = get_or-map of (x ∷ xs) i x d (omega (arith, lt, size, within)) in
    let second = get_or-map of (x ∷ xs) j x d (omega (arith, size, within)) in
    (λ k. is_eq (R (first k) (second k))) ∙ apart i j x lt (omega (arith, size, within)))

module _ (parts : List WordLists) (one : IsOneToOne parts) (n : ℕ) (all : List Row) (gathered : AreRowsBefore parts n all) where
  same_document : (x y : Row) → Contains all x → Contains all y → x.path ≡ y.path → x.doc ≡ y.doc
  same_document x y x_in y_in same =
      let (a, a_has, a_decides, _) = gathered.sound x x_in in
      let (b, b_has, b_decides, _) = gathered.sound y y_in in
      let a_in : Contains parts a = (a_decides.place, slice_get_within parts a_decides.place a a_decides.there, get_or_from_slice_get parts a_decides.place a a a_decides.there) in
      let b_in : Contains parts b = (b_decides.place, slice_get_within parts b_decides.place b b_decides.there, get_or_from_slice_get parts b_decides.place b b b_decides.there) in
      one.document a b x y a_in b_in a_has.0 b_has.0 same

  paths_apart : (i j : ℕ) (d : Row) → i < j → j < length all → is_eq (slice_cmp nat_cmp (get_or all i d).path (get_or all j d).path) ≡ false
  paths_apart i j d lt within =
      elim (cases_Bool (is_eq (slice_cmp nat_cmp (get_or all i d).path (get_or all j d).path))) [
        | inl tied ↦
            let same = slice_cmp-IsAntisymmetric nat_cmp-IsAntisymmetric (get_or all i d).path (get_or all j d).path (is_equal (slice_cmp nat_cmp (get_or all i d).path (get_or all j d).path) tied) in
            let docs = same_document (get_or all i d) (get_or all j d) (Contains-get_or all i d (omega (arith, lt, within))) (Contains-get_or all j d within) same in
            let size : length (map (λ (row : Row). row.doc.0) all) ≡ length all = length-map all (λ (row : Row). row.doc.0) in
            let differ : is_eq (nat_cmp (get_or (map (λ (row : Row). row.doc.0) all) i d.doc.0) (get_or (map (λ (row : Row). row.doc.0) all) j d.doc.0)) ≡ false =
            apart_from_distinct (eq_by_cmp nat_cmp) (map (λ (row : Row). row.doc.0) all) i j d.doc.0 gathered.distinct lt (omega (arith, size, within)) in
            let first = get_or-map (λ (row : Row). row.doc.0) all i d d.doc.0 (omega (arith, lt, within)) in
            let second = get_or-map (λ (row : Row). row.doc.0) all j d d.doc.0 within in
            let equal : is_eq (nat_cmp (get_or all i d).doc.0 (get_or all j d).doc.0) ≡ true = ap is_eq (ap (λ (n : DocNo). nat_cmp (get_or all i d).doc.0 n.0) (sym docs) ∙ tied_itself nat_cmp_total (get_or all i d).doc.0) in
            let no : is_eq (nat_cmp (get_or all i d).doc.0 (get_or all j d).doc.0) ≡ false = sym (λ k. is_eq (nat_cmp (first k) (second k))) ∙ differ in
            let both : true ≡ false = sym equal ∙ no in
            cc
        | inr differ ↦ differ
      ]

  distinct_paths : IsDistinct (eq_by_cmp (slice_cmp nat_cmp)) (map (λ row. row.path) all)
  distinct_paths = distinct_read (slice_cmp nat_cmp) (λ (row : Row). row.path) all paths_apart

  module _ (end : length parts ≤ n) (sorted : List Row) (moves : IsPermutation all sorted) (up : IsSortedByKey (λ row. row.path) (slice_cmp nat_cmp) sorted) where
    pub live_rows : AreLiveRows parts sorted
    live_rows = record {
      live = λ row. (moved_sound (λ (row : Row). row.doc) HasKept parts n all gathered end sorted moves row, moved_whole (λ (row : Row). row.doc) HasKept parts n all gathered end sorted moves row);
      ascend = rising nat_list_cmp_total (λ (row : Row). row.path) all sorted moves distinct_paths up;
    }
