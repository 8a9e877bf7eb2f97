-- What is filed under a key: the documents that have its word, each with the places of the word in it.
use Rattle.std.specs.Prelude.{◌≡◌, ◌≢◌, Bool, true, false, List, [], Option, Some, None, map, if◌then◌else◌}
use Rattle.std.specs.BTreeMap.{BTreeMap, get}
use Rattle.std.specs.Global.{Vec}
use Rattle.std.specs.List.{filter, filter_map, flat_map, zip}
use Rattle.std.specs.Ordering.{is_eq}
use Rattle.ci_base.specs.declared.numbers.DocNo.{DocNo}
use Rattle.ci_base.specs.declared.numbers.Place.{Place}
use Rattle.ci_keys.specs.declared.key.Key.{Key}
use Rattle.ci_keys.specs.Entry.{EntryLists}
use Rattle.ci_keys.specs.Key.{key_cmp}
use Rattle.ci_rows_format.specs.declared.row.Row.{Row}
use Rattle.ci_rows_format.specs.declared.row.RowState.{RowState}
use Rattle.ci_rows_format.specs.declared.row.RowState.TheVariants.{Kept, Erased}

-- a document's words, each with its places
abbrev pub Words : Type 0
Words = List (Key × List Place)

-- a document with the places of a word in it
abbrev pub Posting : Type 0
Posting = DocNo × List Place

-- a document with its words
abbrev pub Document : Type 0
Document = DocNo × Words

abbrev pub is_kept : RowState → Bool
is_kept Kept = true
is_kept Erased = false

-- the documents that are there
abbrev pub kept_docs : List Row → List DocNo
kept_docs rows = map (λ row. row.doc) (filter (λ row. is_kept row.state) rows)

-- each document that is there, with the words of its entry
abbrev pub documents : List Row → List EntryLists → List Document
documents rows entries = zip (kept_docs rows) (map (λ entry. entry.words) entries)

-- a word of a document, as it is filed under a key
abbrev pub posting_of : Key → DocNo → Key × List Place → Option Posting
posting_of key doc word = if is_eq (key_cmp word.0 key) then Some (doc, word.1) else None

-- what a document files under a key
abbrev pub filed : Key → Document → List Posting
filed key document = filter_map (posting_of key document.0) document.1

-- what is filed under a key, in the order of the documents
abbrev pub postings_of : Key → List Document → List Posting
postings_of key all = flat_map (filed key) all

-- what a map from keys has under a key
abbrev pub items_of : Option (Vec Posting) → List Posting
items_of None = []
items_of (Some postings) = postings.items

abbrev pub held : BTreeMap Key (Vec Posting) → Key → List Posting
held index key = items_of (get key_cmp index key)

-- nothing that the map has is empty
abbrev pub NoneEmpty : BTreeMap Key (Vec Posting) → Type 0
NoneEmpty index = (key : Key) (postings : Vec Posting) → get key_cmp index key ≡ Some postings → postings.items ≢ []
