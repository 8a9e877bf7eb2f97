-- What a view of parts stands for. The parts stand newest first, each as the word list that it stands for.
use Rattle.std.specs.Prelude.{◌≡◌, ◌≢◌, ◌↔◌, ℕ, true, List, [], Some, All, Contains, length, map, take, slice_get}
use Rattle.std.specs.Cmp.Lexicographic.{slice_cmp}
use Rattle.std.specs.List.Sorted.{IsStrictlySortedBy}
use Rattle.std.specs.Ordering.{nat_cmp}
use Rattle.ci_base.specs.declared.numbers.DocNo.{DocNo}
use Rattle.ci_base.specs.declared.numbers.PropNo.{PropNo}
use Rattle.ci_keys.specs.declared.key.Key.{Key}
use Rattle.ci_keys.specs.Key.{key_cmp}
use Rattle.ci_keys.specs.Order.{Ascends}
use Rattle.ci_rows_format.specs.declared.row.Row.{Row}
use Rattle.ci_wordlist.specs.Filing.{Posting, is_kept}
use Rattle.ci_wordlist.specs.WordList.{Keys, WordLists}

-- the part has a row of the document
abbrev pub Covers : WordLists → DocNo → Type 0
Covers part doc = Contains (map (λ row. row.doc) part.rows) doc

-- the part stands among these, and no newer one covers the document
pub record Decides (parts : List WordLists) (part : WordLists) (doc : DocNo) : Type 0 where
  pub place : ℕ
  pub there : slice_get parts place ≡ Some part
  pub newer : All (λ newer. ¬ Covers newer doc) (take place parts)

-- the postings that stand beside the key, and none where the key isn't there
pub record AreBeside (key : Key) (keys : Keys) (postings : List Posting) : Type 0 where
  pub found : (beside : List Posting) → Contains keys (key, beside) → postings ≡ beside
  pub only : postings ≢ [] → Contains keys (key, postings)

-- the document has these places under a key of the part
abbrev pub Has : WordLists → Key → Posting → Type 0
Has part key posting = (postings : List Posting) × Contains part.keys (key, postings) × Contains postings posting

-- the part that decides of the document has it under the key
abbrev pub Names : List WordLists → Key → Posting → Type 0
Names parts key posting = (part : WordLists) × Has part key posting × Decides parts part posting.0

-- the postings of a view under a key: those that it names and no other, in the order of their documents
pub record ArePostingsOf (parts : List WordLists) (key : Key) (postings : List Posting) : Type 0 where
  pub named : (posting : Posting) → Contains postings posting ↔ Names parts key posting
  pub ascend : Ascends (λ posting. posting.0.0) nat_cmp postings

-- a row of a document that is there
abbrev pub HasKept : WordLists → Row → Type 0
HasKept part row = Contains part.rows row × (is_kept row.state ≡ true)

-- the part that decides of the document has this row of it, and the document is there
abbrev pub IsLive : List WordLists → Row → Type 0
IsLive parts row = (part : WordLists) × HasKept part row × Decides parts part row.doc

-- the rows of a view: those that are live and no other, in the byte order of their paths
pub record AreLiveRows (parts : List WordLists) (rows : List Row) : Type 0 where
  pub live : (row : Row) → Contains rows row ↔ IsLive parts row
  pub ascend : Ascends (λ row. row.path) (slice_cmp nat_cmp) rows

-- over all rows of all parts a document has one path, and a path one document
pub record IsOneToOne (parts : List WordLists) : Type 0 where
  pub path : (a b : WordLists) (x y : Row) → Contains parts a → Contains parts b → Contains a.rows x → Contains b.rows y → x.doc ≡ y.doc → x.path ≡ y.path
  pub document : (a b : WordLists) (x y : Row) → Contains parts a → Contains parts b → Contains a.rows x → Contains b.rows y → x.path ≡ y.path → x.doc ≡ y.doc

-- a key of the property whose word begins with these bytes
pub record IsWithin (property : PropNo) (prefix : List ℕ) (key : Key) : Type 0 where
  pub in_property : key.property ≡ property
  pub begins : take (length prefix) key.word ≡ prefix

-- a key of some part
abbrev pub IsKeyOf : List WordLists → Key → Type 0
IsKeyOf parts key = (part : WordLists) × Contains parts part × Contains (map (λ item. item.0) part.keys) key

-- the keys of a view in a property whose words begin so: those and no other, in order, each once
pub record AreKeysWithin (parts : List WordLists) (property : PropNo) (prefix : List ℕ) (keys : List Key) : Type 0 where
  pub each : (key : Key) → Contains keys key ↔ (IsWithin property prefix key × IsKeyOf parts key)
  pub ascend : IsStrictlySortedBy key_cmp keys
