-- The kept documents against the map that the journal tells.
use Rattle.std.proofs.Common.{◌≡◌, ◌∙◌, ◌&&◌, ℕ, Bool, true, false, cond, List, [], ◌∷◌, T, Option, Some, None, is_some, refl, ap, sym, subst}
use Rattle.std.specs.Cmp.Lexicographic.{nat_list_cmp_total}
use Rattle.std.specs.FinMap as map_of_keys
use Rattle.std.specs.FinMap.{slice_cmp-IsAntisymmetric, nat_cmp-IsAntisymmetric}
use Rattle.std.specs.FinMap.Entries.{find, is_sorted, below_all}
use Rattle.std.specs.List.{AllByRecursion}
use Rattle.std.specs.List.Sorted.{IsStrictlySortedBy}
use Rattle.std.specs.BTreeMap.{is_at}
use Rattle.std.specs.Map.{keys_of, lookup}
use Rattle.std.specs.Ordering.{is_eq, is_lt}
use Rattle.std.specs.declared.cmp.Ordering.{Ordering}
use Rattle.std.specs.declared.cmp.Ordering.TheVariants.{Less, Equal, Greater}
use Rattle.ci_keys.specs.Entry.{EntryLists}
use Rattle.ci_journal.specs.Terms.{path_cmp, Documents}
use Rattle.ci_documents.specs.Documents.{Standings, StandFor, KeepsEntries, Settles, entry_at, entry_in, present}

both : (a b : Bool) → T a → T b → T (a && b)
both true b p q = q
both false b p q = absurd p

less_is : (o : Ordering) → o ≡ Less → T (is_lt o)
less_is o e = subst (λ r. T (is_lt r)) (sym e) tt

less_apart : (o : Ordering) → o ≡ Less → is_eq o ≡ false
less_apart o e = ap is_eq e

equal_is : (o : Ordering) → is_eq o ≡ true → o ≡ Equal
equal_is Less e = absurd (subst T (sym e) tt)
equal_is Equal e = refl
equal_is Greater e = absurd (subst T (sym e) tt)

abbrev IsAbove : List ℕ → Standings → Type 0
IsAbove path standings = AllByRecursion (λ key. path_cmp path key ≡ Less) (keys_of standings)

-- a path below all keys isn't among them
find-above : (path : List ℕ) (standings : Standings) → IsAbove path standings → find path_cmp path (present standings) ≡ None
find-above path [] above = refl
find-above path (s ∷ standings) above = by s.1 refl (find-above path standings above.1)
  where
    by : (o : Option EntryLists) → s.1 ≡ o → find path_cmp path (present standings) ≡ None → find path_cmp path (present (s ∷ standings)) ≡ None
    by None e rest = rw e rest
    by (Some entry) e rest = rw (e, less_apart _ above.0) rest

below-present : (path : List ℕ) (standings : Standings) → IsAbove path standings → T (below_all path_cmp path (present standings))
below-present path [] above = tt
below-present path (s ∷ standings) above = by s.1 refl (below-present path standings above.1)
  where
    by : (o : Option EntryLists) → s.1 ≡ o → T (below_all path_cmp path (present standings)) → T (below_all path_cmp path (present (s ∷ standings)))
    by None e rest = rw e rest
    by (Some entry) e rest = rw e (both _ _ (less_is _ above.0) rest)

sorted-present : (standings : Standings) → IsStrictlySortedBy path_cmp (keys_of standings) → T (is_sorted path_cmp (present standings))
unfolding IsStrictlySortedBy
sorted-present [] ordered = tt
sorted-present (s ∷ standings) ordered = by s.1 refl (sorted-present standings ordered.1)
  where
    by : (o : Option EntryLists) → s.1 ≡ o → T (is_sorted path_cmp (present standings)) → T (is_sorted path_cmp (present (s ∷ standings)))
    by None e rest = rw e rest
    by (Some entry) e rest = rw e (both _ _ (below-present s.0 standings ordered.0) rest)

-- a path is found among the documents that have entries with the entry that stands for it
find-present : (path : List ℕ) (standings : Standings) → IsStrictlySortedBy path_cmp (keys_of standings) → find path_cmp path (present standings) ≡ entry_at standings path
unfolding IsStrictlySortedBy
find-present path [] ordered = refl
find-present path (s ∷ standings) ordered = by (is_eq (path_cmp path s.0)) s.1 refl refl (find-present path standings ordered.1)
  where
    by : (b : Bool) (o : Option EntryLists) → is_eq (path_cmp path s.0) ≡ b → s.1 ≡ o → find path_cmp path (present standings) ≡ entry_at standings path
        → find path_cmp path (present (s ∷ standings)) ≡ entry_at (s ∷ standings) path
    by true (Some entry) here e rest = rw (e, here) refl
    by true None here e rest =
        let same : path ≡ s.0 = slice_cmp-IsAntisymmetric nat_cmp-IsAntisymmetric path s.0 (equal_is _ here) in
        rw (e, here) (ap (λ p. find path_cmp p (present standings)) same ∙ find-above s.0 standings ordered.0)
    by false (Some entry) here e rest = rw (e, here) rest
    by false None here e rest = rw (e, here) rest

-- the documents that have entries are those of the map, in order
pub present-entries : (documents : Documents) (standings : Standings) → IsStrictlySortedBy path_cmp (keys_of standings) → StandFor documents standings → present standings ≡ map_of_keys.entries documents
present-entries documents standings ordered stands =
    let sorted = sorted-present standings ordered in
    let same : map_of_keys.from_sorted (present standings) ≡ documents =
    map_of_keys.same_map nat_list_cmp_total (slice_cmp-IsAntisymmetric nat_cmp-IsAntisymmetric) _ documents
    (λ path. map_of_keys.get-from_sorted path_cmp (present standings) path sorted ∙ find-present path standings ordered ∙ sym (stands path)) in
    sym (map_of_keys.entries-from_sorted path_cmp (present standings) sorted) ∙ ap map_of_keys.entries same

-- ---- changes of the documents

-- a value that is written at a path settles it
pub Settles-written : (old new : Standings) (path : List ℕ) (written entry : Option EntryLists) → written ≡ entry
    → ((other : List ℕ) → lookup (is_at (path_cmp other)) new ≡ cond (is_eq (path_cmp path other)) (Some written) (lookup (is_at (path_cmp other)) old))
    → Settles old new path entry
Settles-written old new path written entry is at = record {
  entries = λ other. ap entry_in (at other) ∙ of_cond (is_eq (path_cmp path other)) (lookup (is_at (path_cmp other)) old);
  places = λ other place. ap is_some (at other) ∙ some_cond (is_eq (path_cmp path other)) (lookup (is_at (path_cmp other)) old) place;
}
  where
    of_cond : (b : Bool) (o : Option (Option EntryLists)) → entry_in (cond b (Some written) o) ≡ cond b entry (entry_in o)
    of_cond true o = is
    of_cond false o = refl

    some_cond : (b : Bool) (o : Option (Option EntryLists)) → is_some o ≡ true → is_some (cond b (Some written) o) ≡ true
    some_cond true o place = refl
    some_cond false o place = place

same_path : (path other : List ℕ) → is_eq (path_cmp path other) ≡ true → path ≡ other
same_path path other tied = slice_cmp-IsAntisymmetric nat_cmp-IsAntisymmetric path other (equal_is _ tied)

absent_stays : (b : Bool) (at : Option EntryLists) → (b ≡ true → at ≡ None) → at ≡ cond b None at
absent_stays true at none = none refl
absent_stays false at none = refl

-- where a path has no entry, none is taken away
pub Settles-absent : (standings : Standings) (path : List ℕ) → entry_at standings path ≡ None → Settles standings standings path None
Settles-absent standings path none = record {
  entries = λ other. absent_stays (is_eq (path_cmp path other)) (entry_at standings other) (λ tied. ap (entry_at standings) (sym (same_path path other tied)) ∙ none);
  places = λ other place. place;
}

-- a test that finds nothing
pub none-by_test : {X : Type 0} (at : Option X) → is_some at ≡ false → at ≡ None
none-by_test None tested = refl
none-by_test (Some x) tested = absurd (cc)

-- room that is made for a new path changes no entry
pub KeepsEntries-placed : (old new : Standings) (path : List ℕ) → lookup (is_at (path_cmp path)) old ≡ None
    → ((other : List ℕ) → lookup (is_at (path_cmp other)) new ≡ cond (is_eq (path_cmp path other)) (Some None) (lookup (is_at (path_cmp other)) old))
    → KeepsEntries old new
KeepsEntries-placed old new path absent at = record {
  entries = λ other. ap entry_in (at other) ∙ of_cond (is_eq (path_cmp path other)) (lookup (is_at (path_cmp other)) old)
      (λ tied. ap (λ p. lookup (is_at (path_cmp p)) old) (sym (same_path path other tied)) ∙ absent);
  places = λ other place. ap is_some (at other) ∙ some_cond (is_eq (path_cmp path other)) (lookup (is_at (path_cmp other)) old) place;
}
  where
    of_cond : (b : Bool) (o : Option (Option EntryLists)) → (b ≡ true → o ≡ None) → entry_in (cond b (Some None) o) ≡ entry_in o
    of_cond true o none = ap entry_in (sym (none refl))
    of_cond false o none = refl

    some_cond : (b : Bool) (o : Option (Option EntryLists)) → is_some o ≡ true → is_some (cond b (Some None) o) ≡ true
    some_cond true o place = refl
    some_cond false o place = place
