-- How postings are spelled: for each document its number and its places. A number of a document, and a place, is the
-- difference to the one before it, where there is one. The places stand behind their count.
use Rattle.std.specs.Prelude.{◌≢◌, ℕ, ◌-◌, ◌^◌, ◌<◌, List, [], ◌++◌, Option, Some, None, length}
use Rattle.ci_base.specs.Varint.{varint}
use Rattle.ci_base.specs.declared.numbers.DocNo.{DocNo}
use Rattle.ci_base.specs.declared.numbers.Place.{Place}
use Rattle.ci_segment.specs.Chain.{Follow, chained}

-- a number beside the one before it
abbrev pub gap_bytes : Option ℕ → ℕ → List ℕ
gap_bytes None number = varint number
gap_bytes (Some before) number = varint (number - before)

-- a number below 2 ^ 32, above the one before it
abbrev pub IsAbove : Option ℕ → ℕ → Type 0
IsAbove None number = number < 2 ^ 32
IsAbove (Some before) number = (before < number) × (number < 2 ^ 32)

abbrev pub after_place : Option ℕ → Place → Option ℕ
after_place before place = Some place.0

abbrev pub place_bytes : Option ℕ → Place → List ℕ
place_bytes before place = gap_bytes before place.0

abbrev pub MayFollow : Option ℕ → Place → Type 0
MayFollow before place = IsAbove before place.0

-- places behind their count
abbrev pub places_bytes : List Place → List ℕ
places_bytes places = varint (length places) ++ chained place_bytes after_place None places

-- what may stand in places: at least one, and they ascend
pub record ArePlaces (places : List Place) : Type 0 where
  pub few : length places < 2 ^ 64
  pub some : places ≢ []
  pub ascend : Follow MayFollow after_place None places

-- a document with its places
abbrev pub Posting : Type 0
Posting = DocNo × List Place

abbrev pub after_posting : Option ℕ → Posting → Option ℕ
after_posting before posting = Some posting.0.0

abbrev pub posting_bytes : Option ℕ → Posting → List ℕ
posting_bytes before posting = gap_bytes before posting.0.0 ++ places_bytes posting.1

-- what may stand in a posting
abbrev pub IsPostingAfter : Option ℕ → Posting → Type 0
IsPostingAfter before posting = IsAbove before posting.0.0 × ArePlaces posting.1

-- the one spelling of postings
unfoldable pub postings_bytes : List Posting → List ℕ
postings_bytes postings = chained posting_bytes after_posting None postings

-- the grammar: documents that ascend, each with its places
abbrev pub IsSpelledPostings : List Posting → Type 0
IsSpelledPostings postings = Follow IsPostingAfter after_posting None postings
