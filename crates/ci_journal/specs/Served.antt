-- The map that a journal tells: from each document to the entry of its last filtering that counted.
use Rattle.std.specs.Prelude.{ℕ, nat_lt, List, [], ◌∷◌, ◌++◌, Option, Some, None, filter, filter_map, fold, map, if◌then◌else◌}
use Rattle.std.specs.FinMap as map_of_keys
use Rattle.ci_base.specs.declared.numbers.Seq.{Seq}
use Rattle.ci_change.specs.Pending.{served_number}
use Rattle.ci_dialect.specs.declared.restriction.Restriction.{Restriction}
use Rattle.ci_dialect.specs.Sat.{sat}
use Rattle.ci_entry.specs.Entry.{entry_of}
use Rattle.ci_keys.specs.Entry.{EntryLists}
use Rattle.ci_journal.specs.declared.event.Event.{Event}
use Rattle.ci_journal.specs.Tells.{Fate, Filing}
use Rattle.ci_journal.specs.Tells.Fate.{Filtered, Gone}
use Rattle.ci_journal.specs.Filings.{fates}
use Rattle.ci_journal.specs.Terms.{Documents, Served, Terms, found_served}

-- the number under which a fate serves its path: a filtering or an erasure does
abbrev pub number_under : List ℕ × Seq → Fate → Option (List ℕ × Seq)
number_under doc (Filtered pieces) = Some doc
number_under doc Gone = Some doc
number_under doc _ = None

abbrev pub number_of : Filing → Option (List ℕ × Seq)
number_of f = number_under (f.path, f.seq) f.fate

abbrev pub numbers_of : List Filing → List (List ℕ × Seq)
numbers_of filed = filter_map number_of filed

-- the numbers under which paths were served, before the session and in it
abbrev pub served_numbers : Terms → List Event → List (List ℕ × Seq)
served_numbers terms journal = terms.beginning.numbers ++ numbers_of (fates journal)

-- a document gets the entry of its pieces, or is taken away; every other fate leaves it as it is
abbrev pub settle : Terms → Documents → List ℕ → Fate → Documents
settle terms documents path (Filtered pieces) = map_of_keys.insert documents path (entry_of terms.noise pieces)
settle terms documents path Gone = map_of_keys.remove documents path
settle terms documents path _ = documents

-- a path is served up to a number, and its document is settled where the number is above that before
abbrev pub serve_at : Terms → Served → Fate → List ℕ × Seq → Served
serve_at terms served fate doc = record {
  numbers = served.numbers ++ doc ∷ [];
  documents = if nat_lt (served_number served.numbers doc.0) doc.1.0
      then settle terms served.documents doc.0 fate
      else served.documents;
}

abbrev pub serve_where : Terms → Served → Fate → Option (List ℕ × Seq) → Served
serve_where terms served fate (Some doc) = serve_at terms served fate doc
serve_where terms served fate None = served

abbrev pub serve : Terms → Served → Filing → Served
serve terms served f = serve_where terms served f.fate (number_of f)

-- what some fates serve, one after the other, behind what was served before the session
abbrev pub served_by : Terms → List Filing → Served
served_by terms filed = fold (serve terms) (found_served terms.beginning) filed

-- the map from each document to its last filtering that counted
abbrev pub live_map : Terms → List Event → Documents
live_map terms journal = (served_by terms (fates journal)).documents

-- the paths of those of some documents that satisfy a restriction
abbrev pub hits_in : Restriction → List (List ℕ × EntryLists) → List (List ℕ)
hits_in tree documents = map (λ d. d.0) (filter (λ d. sat tree d.0 d.1) documents)

-- of all documents of the map, in byte order of their paths
abbrev pub hits : Restriction → Documents → List (List ℕ)
hits tree documents = hits_in tree (map_of_keys.entries documents)
