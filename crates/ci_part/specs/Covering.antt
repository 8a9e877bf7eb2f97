-- Which documents newer parts cover, as a test. The private functions of this crate cite it.
use Rattle.std.specs.Prelude.{◌==◌, ◌&&◌, Bool, List, map, not}
use Rattle.std.specs.List.{filter, list_any}
use Rattle.ci_base.specs.declared.numbers.DocNo.{DocNo}
use Rattle.ci_rows_format.specs.declared.row.Row.{Row}
use Rattle.ci_wordlist.specs.Filing.{Posting, is_kept}
use Rattle.ci_wordlist.specs.WordList.{WordLists}

-- a row of the part is the document's
abbrev pub covers : DocNo → WordLists → Bool
covers doc part = list_any (λ other. other.0 == doc.0) (map (λ row. row.doc) part.rows)

-- one of the parts covers the document
abbrev pub is_covered : List WordLists → DocNo → Bool
is_covered parts doc = list_any (covers doc) parts

-- the postings of documents that no part covers
abbrev pub uncovered : List WordLists → List Posting → List Posting
uncovered parts postings = filter (λ posting. not (is_covered parts posting.0)) postings

-- the rows of documents that are there, and that no part covers
abbrev pub live : List WordLists → List Row → List Row
live parts rows = filter (λ row. is_kept row.state && not (is_covered parts row.doc)) rows
