-- The documents of a batch, and what their index stands for.
use Rattle.std.proofs.Common.{◌≡◌, ◌≢◌, ℕ, zero, suc, ◌+◌, ◌<◌, ◌≤◌, true, false, List, [], ◌∷◌, ◌++◌, length, map, take, get_or, All, Contains, Option, Some, None, inl, inr, refl, sym, ap, subst, ◌∙◌, arith, append-nil, append_assoc}
use Rattle.std.specs.BTreeMap.{BTreeMap, IsOrdered, get}
use Rattle.std.specs.declared.cmp.Ordering.TheVariants.{Less}
use Rattle.std.specs.Global.{Vec}
use Rattle.std.specs.List.{AllByRecursion, filter, zip}
use Rattle.std.specs.List.Sorted.{IsStrictlySortedBy}
use Rattle.std.specs.Ordering.{nat_cmp}
use Rattle.std.proofs.lemmas.Bool.{cases_Bool}
use Rattle.std.proofs.lemmas.Cmp.{nat_cmp_total}
use Rattle.std.proofs.lemmas.Grind.{flat_map-append}
use Rattle.std.proofs.lemmas.List.{take_more, length-map, get_or-map}
use Rattle.std.proofs.lemmas.List.Concat.{flat_map-cons}
use Rattle.std.proofs.lemmas.List.Elements.{recursion_from_All, All-contains}
use Rattle.std.proofs.lemmas.Map.Keys.{sorted_tail}
use Rattle.std.proofs.lemmas.Map.Made.{keys_of-map_values}
use Rattle.std.proofs.lemmas.Map.Views.{btree_map_get_iff}
use Rattle.std.proofs.lemmas.Slice.Zip.{AllZip-long, get_or-zip}
use Rattle.ci_base.specs.declared.numbers.DocNo.{DocNo}
use Rattle.ci_keys.specs.declared.key.Key.{Key}
use Rattle.ci_keys.specs.Entry.{EntryLists, IsWords}
use Rattle.ci_keys.specs.Key.{IsIndexKey, key_cmp}
use Rattle.ci_keys.specs.Order.{Ascends}
use Rattle.ci_keys.specs.Postings.{IsPostings}
use Rattle.ci_keys.proofs.Keys.{key_cmp_total, key_cmp-IsAntisymmetric}
use Rattle.ci_keys.proofs.OneForm.{Contains-cons_cases, Contains-first, Contains-later, Contains-map, Less-later, none_in_empty}
use Rattle.ci_rows_format.specs.declared.row.Row.{Row}
use Rattle.ci_wordlist.specs.Filing.{Document, NoneEmpty, Posting, Words, documents, filed, held, is_kept, items_of, kept_docs, postings_of}
use Rattle.ci_wordlist.specs.WordList.{AreEntries, AreKeys, AreRows, Keys, StandFor}
use Rattle.ci_wordlist.proofs.OrderLemmas.{Ascends-cons, Ascends-nil, Contains-unmap, all_from}
use Rattle.ci_wordlist.proofs.PostingsLemmas.{in_postings, postings_are, word_of}

zip_long : {A B : Type 0} (xs : List A) (ys : List B) (i : ℕ) → i < length xs → i < length ys → i < length (zip xs ys)
zip_long [] ys i p q = absurd (omega arith)
zip_long (x ∷ xs) [] i p q = absurd (omega arith)
zip_long (x ∷ xs) (y ∷ ys) zero p q = omega arith
zip_long (x ∷ xs) (y ∷ ys) (suc i) p q = omega (arith, zip_long xs ys i (omega arith) (omega arith))

zip_within : {A B : Type 0} (xs : List A) (ys : List B) → length (zip xs ys) ≤ length ys
zip_within [] ys = omega arith
zip_within (x ∷ xs) [] = omega arith
zip_within (x ∷ xs) (y ∷ ys) = omega (arith, zip_within xs ys)

pub zip_short : (docs : List DocNo) (entries : List EntryLists) (i : ℕ) → length entries ≤ i → length (zip docs (map (λ entry. entry.words) entries)) ≤ i
zip_short docs entries i short = omega (arith, zip_within docs (map (λ (entry : EntryLists). entry.words) entries), length-map entries (λ (entry : EntryLists). entry.words))

-- one document more is filed
pub document_held : (key : Key) (docs : List DocNo) (entries : List EntryLists) (at : ℕ) (d : DocNo) (entry : EntryLists) (words : Words) (before after : List Posting)
    → at < length docs → at < length entries → entry ≡ get_or entries at entry → words ≡ entry.words → before ≡ postings_of key (take at (zip docs (map (λ entry. entry.words) entries)))
    → after ≡ before ++ filed key (get_or docs at d, words) → after ≡ postings_of key (take (at + 1) (zip docs (map (λ entry. entry.words) entries)))
document_held key docs entries at d entry words before after in_docs in_entries is same so_far more =
    let lists = map (λ (entry : EntryLists). entry.words) entries in
    let all = zip docs lists in
    let in_lists : at < length lists = omega (arith, in_entries, length-map entries (λ (entry : EntryLists). entry.words)) in
    let there : get_or lists at words ≡ words = get_or-map (λ (entry : EntryLists). entry.words) entries at entry words in_entries ∙ ap (λ (e : EntryLists). e.words) (sym is) ∙ sym same in
    let one : get_or all at (d, words) ≡ (get_or docs at d, words) = get_or-zip docs lists at (d, words) in_docs in_lists ∙ ap (λ ws. (get_or docs at d, ws)) there in
    let grown : postings_of key (take (at + 1) all) ≡ postings_of key (take at all) ++ filed key (get_or docs at d, words) =
    ap (postings_of key) (take_more all at (d, words) (zip_long docs lists at in_docs in_lists) ∙ ap (λ x. take at all ++ x ∷ []) one)
    ∙ flat_map-append (filed key) (take at all) ((get_or docs at d, words) ∷ [])
    ∙ ap (λ ps. postings_of key (take at all) ++ ps) (flat_map-cons (filed key) (get_or docs at d, words) [] ∙ append-nil _) in
    more ∙ ap (λ ps. ps ++ filed key (get_or docs at d, words)) so_far ∙ sym grown

-- ---- the documents that are there

kept_hit : (row : Row) (rows : List Row) → is_kept row.state ≡ true → kept_docs (row ∷ rows) ≡ row.doc ∷ kept_docs rows
kept_hit row rows kept = rw kept refl

kept_miss : (row : Row) (rows : List Row) → is_kept row.state ≡ false → kept_docs (row ∷ rows) ≡ kept_docs rows
kept_miss row rows erased = rw erased refl

kept_row : (rows : List Row) (n : DocNo) → Contains (kept_docs rows) n → (row : Row) × Contains rows row × (row.doc ≡ n)
kept_row [] n has = absurd (none_in_empty n has)
kept_row (row ∷ rows) n has =
    elim (cases_Bool (is_kept row.state)) [
      | inl kept ↦ elim (Contains-cons_cases row.doc (kept_docs rows) n (subst (λ ns. Contains ns n) (kept_hit row rows kept) has)) [
        | inl first ↦ (row, Contains-first row rows, first)
        | inr later ↦ let (r, there, is) = kept_row rows n later in (r, Contains-later row rows r there, is)
      ]
      | inr erased ↦ let (r, there, is) = kept_row rows n (subst (λ ns. Contains ns n) (kept_miss row rows erased) has) in (r, Contains-later row rows r there, is)
    ]

kept_up : (rows : List Row) → Ascends (λ row. row.doc.0) nat_cmp rows → Ascends (λ n. n.0) nat_cmp (kept_docs rows)
kept_up [] up = Ascends-nil (λ (n : DocNo). n.0) nat_cmp
kept_up (row ∷ rows) up =
    let later = kept_up rows (sorted_tail nat_cmp row.doc.0 (map (λ (r : Row). r.doc.0) rows) up) in
    elim (cases_Bool (is_kept row.state)) [
      | inl kept ↦ subst (Ascends (λ (n : DocNo). n.0) nat_cmp) (sym (kept_hit row rows kept)) (Ascends-cons (λ (n : DocNo). n.0) nat_cmp row.doc (kept_docs rows) (λ z has.
          let (r, there, is) = kept_row rows z has in
          subst (λ (n : DocNo). nat_cmp row.doc.0 n.0 ≡ Less) is (Less-later nat_cmp_total (λ (r : Row). r.doc.0) row rows r up there)) later)
      | inr erased ↦ subst (Ascends (λ (n : DocNo). n.0) nat_cmp) (sym (kept_miss row rows erased)) later
    ]

zip_first : (ns : List DocNo) (ws : List Words) (d : Document) → Contains (zip ns ws) d → Contains ns d.0
zip_first [] ws d has = absurd (none_in_empty d has)
zip_first (n ∷ ns) [] d has = absurd (none_in_empty d has)
zip_first (n ∷ ns) (w ∷ ws) d has =
    elim (Contains-cons_cases (n, w) (zip ns ws) d has) [
      | inl first ↦ subst (λ (e : Document). Contains (n ∷ ns) e.0) first (Contains-first n ns)
      | inr later ↦ Contains-later n ns d.0 (zip_first ns ws d later)
    ]

zip_up : (ns : List DocNo) (ws : List Words) → Ascends (λ n. n.0) nat_cmp ns → Ascends (λ d. d.0.0) nat_cmp (zip ns ws)
zip_up [] ws up = Ascends-nil (λ (d : Document). d.0.0) nat_cmp
zip_up (n ∷ ns) [] up = Ascends-nil (λ (d : Document). d.0.0) nat_cmp
zip_up (n ∷ ns) (w ∷ ws) up =
    Ascends-cons (λ (d : Document). d.0.0) nat_cmp (n, w) (zip ns ws) (λ z has. Less-later nat_cmp_total (λ (n : DocNo). n.0) n ns z.0 up (zip_first ns ws z has))
    (zip_up ns ws (sorted_tail nat_cmp n.0 (map (λ (n : DocNo). n.0) ns) up))

words_in : (ns : List DocNo) (entries : List EntryLists) → AllByRecursion (λ entry. IsWords entry.words) entries → AllByRecursion (λ d. IsWords d.1) (zip ns (map (λ entry. entry.words) entries))
words_in [] entries words = tt
words_in (n ∷ ns) [] words = tt
words_in (n ∷ ns) (e ∷ entries) words = (words.0, words_in ns entries words.1)

-- ---- the index of a batch

module _ (rows : List Row) (entries : List EntryLists) (are : AreRows rows) (words : All (λ entry. IsWords entry.words) entries)
    (index : BTreeMap Key (Vec Posting)) (order : IsOrdered key_cmp index) (none : NoneEmpty index) (filed_is : (key : Key) → held index key ≡ postings_of key (documents rows entries)) where
  up : Ascends (λ d. d.0.0) nat_cmp (documents rows entries)
  up = zip_up (kept_docs rows) (map (λ (entry : EntryLists). entry.words) entries) (kept_up rows are.ascend)

  each : AllByRecursion (λ d. IsWords d.1) (documents rows entries)
  each = words_in (kept_docs rows) entries (recursion_from_All (λ (entry : EntryLists). IsWords entry.words) entries words)

  found : (key : Key) (v : Vec Posting) → Contains index.entries (key, v) → (v.items ≡ postings_of key (documents rows entries)) × (v.items ≢ [])
  found key v has =
      let g = (btree_map_get_iff key_cmp_total key_cmp-IsAntisymmetric index order key v).1 has in
      (sym (ap items_of g) ∙ filed_is key, none key v g)

  -- what the map has are postings
  pub are_postings : All (λ key. IsPostings key.1.items) index.entries
  are_postings = all_from (λ (e : Key × Vec Posting). IsPostings e.1.items) index.entries (λ e has.
      subst (λ ps. IsPostings ps) (sym (found e.0 e.1 has).0) (postings_are e.0 (documents rows entries) up each))

  abbrev pub shown : Keys
  shown = map (λ (e : Key × Vec Posting). (e.0, e.1.items)) index.entries

  shown_is : (key : Key) (ps : List Posting) → Contains shown (key, ps) → (ps ≡ postings_of key (documents rows entries)) × (ps ≢ [])
  shown_is key ps has =
      let (e, there, is) = Contains-unmap (λ (e : Key × Vec Posting). (e.0, e.1.items)) index.entries (key, ps) has in
      subst (λ (k : Key × List Posting). (k.1 ≡ postings_of k.0 (documents rows entries)) × (k.1 ≢ [])) is (found e.0 e.1 there)

  some_found : (key : Key) (o : Option (Vec Posting)) → items_of o ≢ [] → (v : Vec Posting) × (o ≡ Some v)
  some_found key None some = absurd (some refl)
  some_found key (Some v) some = (v, refl)

  shown_has : (key : Key) (ps : List Posting) → ps ≡ postings_of key (documents rows entries) → ps ≢ [] → Contains shown (key, ps)
  shown_has key ps is some =
      let e : ps ≡ held index key = is ∙ sym (filed_is key) in
      let (v, g) = some_found key (get key_cmp index key) (λ empty. some (e ∙ empty)) in
      let there = (btree_map_get_iff key_cmp_total key_cmp-IsAntisymmetric index order key v).0 g in
      subst (λ qs. Contains shown (key, qs)) (sym (e ∙ ap items_of g)) (Contains-map (λ (e : Key × Vec Posting). (e.0, e.1.items)) index.entries (key, v) there)

  -- the keys stand for the batch
  pub stand_for : (keys : Keys) → keys ≡ shown → StandFor rows entries keys
  stand_for keys same key ps = (λ has. shown_is key ps (subst (λ ks. Contains ks (key, ps)) same has), λ p. subst (λ ks. Contains ks (key, ps)) (sym same) (shown_has key ps p.0 p.1))

  first_of : (ps : List Posting) → ps ≢ [] → (p : Posting) × Contains ps p
  first_of [] some = absurd (some refl)
  first_of (p ∷ ps) some = (p, Contains-first p ps)

  index_key : (key : Key × List Posting) → Contains shown key → IsIndexKey key.0
  index_key key has =
      let is = shown_is key.0 key.1 has in
      let (p, there) = first_of key.1 is.1 in
      let (ws, good, word) = word_of (documents rows entries) each key.0 p (subst (λ ps. Contains ps p) is.0 there) in
      All-contains (λ (w : _). IsIndexKey w.0) ws (key.0, p.1) good.keys word

  kept_posting : (key : Key × List Posting) → Contains shown key → All (λ posting. Contains (kept_docs rows) posting.0) key.1
  kept_posting key has = all_from (λ (p : Posting). Contains (kept_docs rows) p.0) key.1 (λ p there.
      let is = shown_is key.0 key.1 has in
      let (d, among, doc, word) = in_postings key.0 (documents rows entries) p (subst (λ ps. Contains ps p) is.0 there) in
      subst (λ n. Contains (kept_docs rows) n) (sym doc) (zip_first (kept_docs rows) (map (λ (entry : EntryLists). entry.words) entries) d among))

  pub are_keys : (keys : Keys) → keys ≡ shown → AreKeys rows keys
  are_keys keys same = subst (AreKeys rows) (sym same) (record {
    ascend = subst (IsStrictlySortedBy key_cmp) (sym (keys_of-map_values (λ (v : Vec Posting). v.items) index.entries)) order;
    each = all_from (λ (k : Key × List Posting). IsIndexKey k.0) shown index_key;
    some = all_from (λ (k : Key × List Posting). k.1 ≢ []) shown (λ k has. (shown_is k.0 k.1 has).1);
    postings = all_from (λ (k : Key × List Posting). IsPostings k.1) shown (λ k has. subst (λ ps. IsPostings ps) (sym (shown_is k.0 k.1 has).0) (postings_are k.0 (documents rows entries) up each));
    kept = all_from (λ (k : Key × List Posting). All (λ posting. Contains (kept_docs rows) posting.0) k.1) shown kept_posting;
  })

-- as many entries as documents that are there
pub as_many : (rows : List Row) (entries : List EntryLists) → AreEntries rows entries → length (kept_docs rows) ≡ length entries
as_many rows entries are = length-map (filter (λ (row : Row). is_kept row.state) rows) (λ (row : Row). row.doc) ∙ sym (AllZip-long _ (filter (λ (row : Row). is_kept row.state) rows) entries are)

-- a key more is handed out
pub keys_more : (keys new total : Keys) (k : Key) (v : Vec Posting) (ps : List Posting) (left rest : List (Key × Vec Posting)) → left ≡ (k, v) ∷ rest → new ≡ keys ++ (k, ps) ∷ [] → ps ≡ v.items
    → keys ++ map (λ e. (e.0, e.1.items)) left ≡ total → new ++ map (λ e. (e.0, e.1.items)) rest ≡ total
keys_more keys new total k v ps left rest first more same so_far =
    let items : List (Key × Vec Posting) → Keys = λ es. map (λ (e : Key × Vec Posting). (e.0, e.1.items)) es in
    ap (λ ks. ks ++ items rest) (more ∙ ap (λ qs. keys ++ (k, qs) ∷ []) same) ∙ append_assoc keys ((k, v.items) ∷ []) (items rest)
    ∙ ap (λ es. keys ++ items es) (sym first) ∙ so_far
