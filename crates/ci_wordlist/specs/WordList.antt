-- What a word list shows, and what it stands for.
use Rattle.std.specs.Prelude.{◌≡◌, ◌≢◌, ◌↔◌, List, [], All, Contains}
use Rattle.std.specs.List.{AllZip, filter}
use Rattle.std.specs.Ordering.{nat_cmp}
use Rattle.ci_keys.specs.declared.key.Key.{Key}
use Rattle.ci_keys.specs.Entry.{EntryLists}
use Rattle.ci_keys.specs.Key.{IsIndexKey, key_cmp}
use Rattle.ci_keys.specs.Order.{Ascends}
use Rattle.ci_keys.specs.Postings.{IsPostings}
use Rattle.ci_rows_format.specs.declared.row.Row.{Row}
use Rattle.ci_rows_format.specs.Rows.{MayHave}
use Rattle.ci_wordlist.specs.Filing.{Posting, documents, is_kept, kept_docs, postings_of}

-- keys with their postings
abbrev pub Keys : Type 0
Keys = List (Key × List Posting)

-- the rows of a batch, and the keys of its documents
pub record WordLists : Type 0 where
  pub rows : List Row
  pub keys : Keys

-- rows in the order of their documents, of each document at most one; one that was taken away has no values
pub record AreRows (rows : List Row) : Type 0 where
  pub ascend : Ascends (λ row. row.doc.0) nat_cmp rows
  pub erased : All (λ row. MayHave row.state row.values) rows

-- keys of the index in their order, each with some postings, which name documents that are there
pub record AreKeys (rows : List Row) (keys : Keys) : Type 0 where
  pub ascend : Ascends (λ key. key.0) key_cmp keys
  pub each : All (λ key. IsIndexKey key.0) keys
  pub some : All (λ key. key.1 ≢ []) keys
  pub postings : All (λ key. IsPostings key.1) keys
  pub kept : All (λ key. All (λ posting. Contains (kept_docs rows) posting.0) key.1) keys

pub record IsWordList (list : WordLists) : Type 0 where
  pub rows : AreRows list.rows
  pub keys : AreKeys list.rows list.keys

-- an entry for each document that is there, in order, with the values of its row
abbrev pub AreEntries : List Row → List EntryLists → Type 0
AreEntries rows entries = AllZip (λ row entry. row.values ≡ entry.values) (filter (λ row. is_kept row.state) rows) entries

-- the keys are those of the entries: under a key stand the documents that have it, with its places in them
abbrev pub StandFor : List Row → List EntryLists → Keys → Type 0
StandFor rows entries keys =
    (key : Key) (postings : List Posting) →
    Contains keys (key, postings) ↔ (postings ≡ postings_of key (documents rows entries)) × (postings ≢ [])
