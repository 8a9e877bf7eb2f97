-- What the meaning of a journal rests on: what the session was told, and what it began with.
use Rattle.std.specs.Prelude.{ℕ, Bool, true, List, [], Option, fold}
use Rattle.std.specs.Ordering.{nat_cmp}
use Rattle.std.specs.Cmp.Lexicographic.{slice_cmp}
use Rattle.std.specs.declared.cmp.Ordering.{Ordering}
use Rattle.std.specs.FinMap as map_of_keys
use Rattle.ci_base.specs.declared.numbers.Seq.{Seq}
use Rattle.ci_change.specs.declared.notice.Notice.{Notice}
use Rattle.ci_keys.specs.declared.key.Key.{Key}
use Rattle.ci_keys.specs.Entry.{EntryLists}

-- paths go by their bytes
abbrev pub path_cmp : List ℕ → List ℕ → Ordering
path_cmp = slice_cmp nat_cmp

-- documents with their entries
abbrev pub Documents : Type 0
Documents = map_of_keys.FinMap path_cmp EntryLists

-- what was served: each path with the number that it was served under, and the documents
pub record Served : Type 0 where
  pub numbers : List (List ℕ × Seq)
  pub documents : Documents

-- how far the master merge has come: there was none yet, it runs and stands behind a key, or it has ended
pub data Merge : Type 0 where
  Never : Merge
  Running : Option Key → Merge
  Ended : Merge

-- the numbers that were served before the session, the documents with their entries, the notices, the number of the
-- next one, how many shadows there were, and the master merge
pub record Beginning : Type 0 where
  pub numbers : List (List ℕ × Seq)
  pub documents : List (List ℕ × EntryLists)
  pub notices : List Notice
  pub next : ℕ
  pub shadows : ℕ
  pub merge : Merge

-- a session that finds nothing
abbrev pub empty_beginning : Beginning
empty_beginning = record {
  numbers = [];
  documents = [];
  notices = [];
  next = 1;
  shadows = 0;
  merge = Never;
}

-- what was served before the session
abbrev pub found_served : Beginning → Served
found_served beginning = record {
  numbers = beginning.numbers;
  documents = fold (λ so_far d. map_of_keys.insert so_far d.0 d.1) map_of_keys.empty beginning.documents;
}

-- the words that are too common to be kept, how often a document is tried, whether entries are kept in word lists, and
-- what there was before
pub record Terms : Type 0 where
  pub noise : List (List ℕ)
  pub retries : ℕ
  pub in_lists : Bool
  pub beginning : Beginning

-- the path may be noted; today each path may
abbrev pub in_scope : Terms → List ℕ → Bool
in_scope terms path = true
