-- The postings of a key in many parts.
use Rattle.std.proofs.Common.{◌≡◌, ◌≢◌, ◌⊎◌, ℕ, ◌+◌, ◌≤◌, true, false, List, [], ◌∷◌, ◌++◌, length, take, All, Contains, Some, not, inl, inr, refl, sym, ap, subst, arith}
use Rattle.std.specs.Prelude.{slice_get}
use Rattle.std.specs.Cmp.{nat_cmp_total}
use Rattle.std.specs.List.{filter}
use Rattle.std.specs.List.Sorted.{IsPermutation, IsSortedByKey}
use Rattle.std.specs.Ordering.{nat_cmp}
use Rattle.std.proofs.lemmas.List.Elements.{All-append, All-contains, All-filter, All-nil, All-weaker}
use Rattle.std.proofs.lemmas.List.Sorted.{All-permutation}
use Rattle.ci_base.specs.declared.numbers.DocNo.{DocNo}
use Rattle.ci_keys.specs.declared.key.Key.{Key}
use Rattle.ci_keys.specs.Places.{IsPlaces}
use Rattle.ci_keys.specs.Postings.{IsPostings}
use Rattle.ci_keys.proofs.OneForm.{Contains-map, none_in_empty}
use Rattle.ci_rows_format.specs.declared.row.Row.{Row}
use Rattle.ci_wordlist.specs.Filing.{Posting, is_kept, kept_docs}
use Rattle.ci_wordlist.specs.WordList.{AreKeys, Keys, WordLists}
use Rattle.ci_wordlist.proofs.OrderLemmas.{Contains-unmap}
use Rattle.ci_part.specs.Covering.{is_covered, uncovered}
use Rattle.ci_part.specs.View.{AreBeside, ArePostingsOf, Covers, Has}
use Rattle.ci_part.proofs.BesideLemmas.{none_are_postings}
use Rattle.ci_part.proofs.GatherLemmas.{IsAdded, IsGathered, documents_ascend, gathered_more, gathered_none, moved_sound, moved_whole}
use Rattle.ci_part.proofs.ListLemmas.{Contains-filter, filter-Contains, up_filter}

-- a document that is there has a row
kept_covers : (part : WordLists) (doc : DocNo) → Contains (kept_docs part.rows) doc → Covers part doc
kept_covers part doc has =
    let (row, there, is) = Contains-unmap (λ (row : Row). row.doc) (filter (λ (row : Row). is_kept row.state) part.rows) doc has in
    subst (Covers part) is (Contains-map (λ (row : Row). row.doc) part.rows row (Contains-filter (λ (row : Row). is_kept row.state) part.rows row there).0)

none_or_listed : (keys : Keys) (key : Key) (found : List Posting) → (found ≢ [] → Contains keys (key, found)) → (found ≡ []) ⊎ Contains keys (key, found)
none_or_listed keys key [] only = inl refl
none_or_listed keys key (p ∷ ps) only = inr (only (λ empty. cc))

is_free : (newer : List WordLists) (doc : DocNo) → not (is_covered newer doc) ≡ true → is_covered newer doc ≡ false
is_free newer doc e = grind (arith, e)

-- what stands beside a key are postings of documents that the part covers
module _ (part : WordLists) (keys : AreKeys part.rows part.keys) (key : Key) (found : List Posting) (beside : AreBeside key part.keys found) where
  are_postings : IsPostings found
  are_postings = elim (none_or_listed part.keys key found beside.only) [
    | inl none ↦ subst IsPostings (sym none) none_are_postings
    | inr there ↦ All-contains (λ (item : Key × List Posting). IsPostings item.1) part.keys (key, found) keys.postings there
  ]

  are_covered : All (λ posting. Covers part posting.0) found
  are_covered = elim (none_or_listed part.keys key found beside.only) [
    | inl none ↦ subst (All (λ (posting : Posting). Covers part posting.0)) (sym none) (All-nil (λ (posting : Posting). Covers part posting.0))
    | inr there ↦ All-weaker (λ (posting : Posting). Contains (kept_docs part.rows) posting.0) (λ (posting : Posting). Covers part posting.0) (λ posting. kept_covers part posting.0) found
        (All-contains (λ (item : Key × List Posting). All (λ (posting : Posting). Contains (kept_docs part.rows) posting.0) item.1) part.keys (key, found) keys.kept there)
  ]

  sound : (newer : List WordLists) (posting : Posting) → Contains (uncovered newer found) posting → Has part key posting × (is_covered newer posting.0 ≡ false)
  sound newer posting has =
      let (listed, good) = Contains-filter (λ (posting : Posting). not (is_covered newer posting.0)) found posting has in
      let some : found ≢ [] = λ none. none_in_empty posting (subst (λ ps. Contains ps posting) none listed) in
      ((found, beside.only some, listed), is_free newer posting.0 good)

  whole : (newer : List WordLists) (posting : Posting) → Has part key posting → is_covered newer posting.0 ≡ false → Contains (uncovered newer found) posting
  whole newer posting (ps, in_keys, in_ps) free =
      filter-Contains (λ (posting : Posting). not (is_covered newer posting.0)) found posting (subst (λ qs. Contains qs posting) (sym (beside.found ps in_keys)) in_ps) (ap not free)

  postings_added : (newer : List WordLists) → IsAdded (λ posting. posting.0) (λ part. Has part key) newer part (uncovered newer found)
  postings_added newer = record {
    sound = sound newer;
    whole = whole newer;
    ascend = up_filter nat_cmp_total (λ (posting : Posting). posting.0.0) (λ (posting : Posting). not (is_covered newer posting.0)) found are_postings.ascend;
    covered = All-filter (λ (posting : Posting). not (is_covered newer posting.0)) (λ (posting : Posting). Covers part posting.0) found are_covered;
  }

-- the postings of the first parts
pub record ArePostingsBefore (parts : List WordLists) (key : Key) (n : ℕ) (all : List Posting) : Type 0 where
  pub gathered : IsGathered (λ posting. posting.0) (λ part. Has part key) parts n all
  pub places : All (λ posting. IsPlaces posting.1) all

pub postings_none : (parts : List WordLists) (key : Key) (all : List Posting) → all ≡ [] → ArePostingsBefore parts key 0 all
postings_none parts key all none = record {
  gathered = gathered_none (λ (posting : Posting). posting.0) (λ part. Has part key) parts all none;
  places = subst (All (λ (posting : Posting). IsPlaces posting.1)) (sym none) (All-nil (λ (posting : Posting). IsPlaces posting.1));
}

pub postings_more : (parts : List WordLists) (key : Key) (n : ℕ) (part : WordLists) → slice_get parts n ≡ Some part → AreKeys part.rows part.keys → (found : List Posting) → AreBeside key part.keys found
    → (all new : List Posting) → ArePostingsBefore parts key n all → new ≡ all ++ uncovered (take n parts) found → ArePostingsBefore parts key (n + 1) new
postings_more parts key n part there keys found beside all new so_far is =
    let added = uncovered (take n parts) found in
    let P = λ (posting : Posting). IsPlaces posting.1 in
    subst (ArePostingsBefore parts key (n + 1)) (sym is) (record {
      gathered = gathered_more (λ (posting : Posting). posting.0) (λ part. Has part key) parts n part there all added so_far.gathered (postings_added part keys key found beside (take n parts));
      places = All-append P all added so_far.places (All-filter (λ (posting : Posting). not (is_covered (take n parts) posting.0)) P found (are_postings part keys key found beside).places);
    })

module _ (parts : List WordLists) (key : Key) (n : ℕ) (all : List Posting) (so_far : ArePostingsBefore parts key n all) (end : length parts ≤ n)
    (sorted : List Posting) (moves : IsPermutation all sorted) (up : IsSortedByKey (λ posting. posting.0.0) nat_cmp sorted) where
  pub sorted_postings : ArePostingsOf parts key sorted
  sorted_postings =
      let of = λ (posting : Posting). posting.0 in
      let Holds = λ (part : WordLists). Has part key in
      record {
        named = λ posting. (moved_sound of Holds parts n all so_far.gathered end sorted moves posting, moved_whole of Holds parts n all so_far.gathered end sorted moves posting);
        ascend = documents_ascend of Holds parts n all so_far.gathered end sorted moves up;
      }

  pub are_sorted : IsPostings sorted
  are_sorted = record { places = All-permutation (λ (posting : Posting). IsPlaces posting.1) all sorted moves so_far.places; ascend = sorted_postings.ascend }
