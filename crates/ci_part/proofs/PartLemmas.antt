-- The row of a document.
use Rattle.std.proofs.Common.{◌≡◌, ℕ, zero, suc, ◌<◌, List, [], ◌∷◌, map, length, get_or, Contains, Ok, Err, Some, inl, inr, refl, sym, ap, subst, ◌∙◌, arith}
use Rattle.std.specs.Prelude.{slice_get}
use Rattle.std.specs.declared.cmp.Ordering.TheVariants.{Less, Equal, Greater}
use Rattle.std.specs.Cmp.{nat_cmp_total}
use Rattle.std.specs.List.Sorted.{IsBinarySearchResult, IsNonDecreasingBy}
use Rattle.std.specs.Ordering.{is_lt, nat_cmp, ordering_index, ordering_reverse}
use Rattle.std.proofs.lemmas.Bool.{cases_lt}
use Rattle.std.proofs.lemmas.Cmp.{tied_itself}
use Rattle.std.proofs.lemmas.List.{get_or-map, length-map}
use Rattle.std.proofs.lemmas.List.Sorted.{searchable_from_sorted}
use Rattle.std.proofs.lemmas.Map.Keys.{Less-from_sorted}
use Rattle.ci_base.specs.declared.numbers.DocNo.{DocNo}
use Rattle.ci_keys.specs.Order.{Ascends}
use Rattle.ci_rows_format.specs.declared.row.Row.{Row}

get_map : {X Y : Type 0} (f : X → Y) (xs : List X) (i : ℕ) (d : X) → i < length xs → slice_get (map f xs) i ≡ Some (f (get_or xs i d))
get_map f [] i d within = absurd (omega arith)
get_map f (x ∷ xs) zero d within = refl
get_map f (x ∷ xs) (suc i) d within = get_map f xs i d (omega arith)

row_there : (rows : List Row) (i : ℕ) → i < length rows → (row : Row) × (row ≡ get_or rows i row)
row_there [] i within = absurd (omega arith)
row_there (x ∷ xs) zero within = (x, refl)
row_there (x ∷ xs) (suc i) within = row_there xs i (omega arith)

same_doc : (a b : DocNo) → nat_cmp a.0 b.0 ≡ Equal → a ≡ b
same_doc a b tied = let e : a.0 ≡ b.0 = grind (arith, tied) in λ i. record { 0 = e i }

module _ (rows : List Row) (doc : DocNo) (up : Ascends (λ row. row.doc.0) nat_cmp rows) where
  below : (i j : ℕ) (d : Row) → i < j → j < length rows → nat_cmp (get_or rows i d).doc.0 (get_or rows j d).doc.0 ≡ Less
  below i j d lt within =
      let size : length (map (λ (row : Row). row.doc.0) rows) ≡ length rows = length-map rows (λ (row : Row). row.doc.0) in
      let e = Less-from_sorted nat_cmp (map (λ (row : Row). row.doc.0) rows) i j d.doc.0 up lt (omega (arith, size, within)) in
      subst (λ n. nat_cmp (get_or rows i d).doc.0 n ≡ Less) (get_or-map (λ (row : Row). row.doc.0) rows j d d.doc.0 within)
      (subst (λ n. nat_cmp n (get_or (map (λ (row : Row). row.doc.0) rows) j d.doc.0) ≡ Less) (get_or-map (λ (row : Row). row.doc.0) rows i d d.doc.0 (omega (arith, lt, within))) e)

  above : (i j : ℕ) (d : Row) → i < j → j < length rows → nat_cmp (get_or rows j d).doc.0 (get_or rows i d).doc.0 ≡ Greater
  above i j d lt within = nat_cmp_total.antisymm (get_or rows j d).doc.0 (get_or rows i d).doc.0 ∙ ap ordering_reverse (below i j d lt within)

  comparisons_rise : IsNonDecreasingBy (λ row. ordering_index (nat_cmp row.doc.0 doc.0)) rows
  comparisons_rise = searchable_from_sorted nat_cmp_total (λ row. row.doc.0) rows doc.0 (λ i d _ within. ap is_lt (above i _ d (omega arith) within))

  pub doc_found : (at : ℕ) → at < length rows → IsBinarySearchResult (λ row. nat_cmp row.doc.0 doc.0) rows (Ok at) → slice_get (map (λ row. row.doc) rows) at ≡ Some doc
  doc_found at within equal =
      let (row, is) = row_there rows at within in
      get_map (λ (r : Row). r.doc) rows at row within ∙ ap (λ (d : DocNo). Some d) (same_doc (get_or rows at row).doc doc (equal row))

  pub doc_lacks : (at : ℕ) → IsBinarySearchResult (λ row. nat_cmp row.doc.0 doc.0) rows (Err at) → Contains (map (λ row. row.doc) rows) doc → ⊥
  doc_lacks at searched has =
      let parted = searched comparisons_rise in
      let j = has.0 in
      let size : length (map (λ (r : Row). r.doc) rows) ≡ length rows = length-map rows (λ (r : Row). r.doc) in
      let within : j < length rows = omega (arith, size, has.1) in
      let (row, is) = row_there rows j within in
      let same : (get_or rows j row).doc ≡ doc = sym (get_or-map (λ (r : Row). r.doc) rows j row doc within) ∙ has.2 in
      let tied : nat_cmp (get_or rows j row).doc.0 doc.0 ≡ Equal = ap (λ (d : DocNo). nat_cmp d.0 doc.0) same ∙ tied_itself nat_cmp_total doc.0 in
      elim (cases_lt j at) [
        | inl low ↦ (let less = parted.0 j row (omega arith) low in let no : Less ≡ Equal = sym less ∙ tied in cc)
        | inr high ↦ (let more = parted.1 j row high within in let no : Greater ≡ Equal = sym more ∙ tied in cc)
      ]
