-- Which step the filtering makes next, and when it is through.
use Rattle.std.specs.Prelude.{◌≡◌, ◌≢◌, ◌⊎◌, ℕ, Bool, true, false, List, [], Option, Some, None, Contains}
use Rattle.std.specs.Ordering.{is_lt, nat_cmp}
use Rattle.std.specs.Cmp.Lexicographic.{slice_cmp}
use Rattle.ci_base.specs.declared.numbers.Seq.{Seq}
use Rattle.ci_change.specs.declared.batch.Batch.{Batch}
use Rattle.ci_change.specs.declared.notice.Notice.{Notice}
use Rattle.ci_change.specs.declared.notice.What.TheVariants.{Deleted}
use Rattle.ci_journal.specs.declared.event.Event.{Event}
use Rattle.ci_journal.specs.declared.event.Happened.{Happened}
use Rattle.ci_journal.specs.declared.event.Happened.TheVariants.{Erased, Started, StartFailed, DaemonLost, Begun, BatchDone, BatchDied, Returned}
use Rattle.ci_journal.specs.Daemon.{holds_link, is_lost}
use Rattle.ci_journal.specs.Filings.{out}
use Rattle.ci_journal.specs.Pending.{deletions, free}
use Rattle.ci_journal.specs.Step.{MayDie, MayEnd, MayFinish}
use Rattle.ci_journal.specs.Tells.{event, last_of}
use Rattle.ci_journal.specs.Terms.{Terms}
use Rattle.ci_holdings.specs.Batches.{IsNextBatch}

-- how many documents a batch has, at most
abbrev pub batch_docs : ℕ
batch_docs = 16

-- a start that failed, and a batch that was given back, end the trying
abbrev pub ends_trying : Happened → Bool
ends_trying StartFailed = true
ends_trying DaemonLost = true
ends_trying (Returned number) = true
ends_trying _ = false

abbrev pub ends_with : Option Event → Bool
ends_with None = false
ends_with (Some last) = ends_trying last.what

abbrev pub is_over : List Event → Bool
is_over journal = ends_with (last_of journal)

-- no batch is out, and nothing has ended the trying
pub record IsIdle (journal : List Event) : Type 0 where
  pub back : out journal ≡ []
  pub goes_on : is_over journal ≡ false

-- of the pending deletions, this one comes first in byte order
pub record IsFirstDeletion (terms : Terms) (journal : List Event) (path : List ℕ) (seq : Seq) : Type 0 where
  pub pending : Contains (deletions terms journal) (record { path = path; seq = seq; what = Deleted })
  pub first : (other : Notice) → Contains (deletions terms journal) other → is_lt (slice_cmp nat_cmp other.path path) ≡ false

-- no deletion is pending, and something is free
pub record IsWanted (terms : Terms) (journal : List Event) : Type 0 where
  pub idle : IsIdle journal
  pub erased : deletions terms journal ≡ []
  pub some : free terms journal ≢ []

-- the author holds no link, and a start may be tried
pub record MayStart (terms : Terms) (journal : List Event) (by : ℕ) : Type 0 where
  pub wanted : IsWanted terms journal
  pub unheld : holds_link journal by ≡ false
  pub unlost : is_lost journal ≡ false

pub record BeginsNext (terms : Terms) (journal : List Event) (by : ℕ) (batch : Batch) : Type 0 where
  pub wanted : IsWanted terms journal
  pub linked : holds_link journal by ≡ true
  pub next : IsNextBatch terms journal batch_docs batch

-- behind the journal this is the next step: the deletions are erased first, in byte order of their paths; then, while
-- something is free, a daemon is started where no link is held, and otherwise a batch begins; and each batch ends
abbrev pub IsNextOf : Terms → ℕ → List Event → Happened → Type 0
IsNextOf terms by journal (Erased path seq) = IsIdle journal × IsFirstDeletion terms journal path seq
IsNextOf terms by journal Started = MayStart terms journal by
IsNextOf terms by journal StartFailed = MayStart terms journal by
IsNextOf terms by journal (Begun batch) = BeginsNext terms journal by batch
IsNextOf terms by journal (BatchDone number outcomes) = MayFinish journal by number outcomes
IsNextOf terms by journal (BatchDied number charged) = MayDie journal by number charged
IsNextOf terms by journal (Returned number) = (batch : Batch) × MayEnd journal by number batch
IsNextOf terms by journal _ = ⊥

-- nothing is free, no batch is out, and no deletion is pending
pub record IsFiltered (terms : Terms) (journal : List Event) : Type 0 where
  pub none : free terms journal ≡ []
  pub back : out journal ≡ []
  pub erased : deletions terms journal ≡ []

-- something is free, and no daemon can be had: a start failed among these events, or no start is tried any more
pub record IsHopeless (terms : Terms) (journal since : List Event) : Type 0 where
  pub some : free terms journal ≢ []
  pub why : ((by : ℕ) × Contains since (event by StartFailed)) ⊎ (is_lost journal ≡ true)
