-- What contracts see of a filter worker, and what it keeps true of the journal.
use Rattle.std.specs.Prelude.{◌≡◌, ◌≤◌, ◌+◌, ◌-◌, ◌^◌, ℕ, Bool, true, false, List, Option, Some, None, length, min, filter}
use Rattle.ci_base.specs.declared.numbers.Seq.{Seq}
use Rattle.ci_io.specs.Causes.{Rose}
use Rattle.ci_journal.specs.declared.event.Event.{Event}
use Rattle.ci_journal.specs.Daemon.{KeepsLinks, holds_link, is_lost}
use Rattle.ci_journal.specs.Tells.{Start, tellings}
use Rattle.ci_journal.specs.Tells.Start.{Failed}
use Rattle.ci_link.specs.Line.{Speaking}
use Rattle.ci_link.specs.Records.{record_of, with_record}
use Rattle.ci_link.specs.Talking.{RunsOutAt, TalksAs}
use Rattle.ci_link.specs.declared.outcome.Talk.{Talk as Came}
use Rattle.ci_link.specs.declared.record.LinkRecord.{LinkRecord}
use Rattle.ci_worker.specs.Links.{FitTold}
use Rattle.ci_worker.specs.Talks.{talks}

-- its spawner's records, where it tells them, and its count of faults; the daemon that is held; and whether no start is
-- tried any more
pub record Working : Type 0 where
  pub records : Option (List LinkRecord)
  pub faults : ℕ
  pub held : Option Speaking
  pub lost : Bool

abbrev pub is_held : Option Speaking → Bool
is_held None = false
is_held (Some link) = true

-- it holds a link where the journal says so of its author, and tries no start where the journal says so
pub record Holds (worker : Working) (journal : List Event) (by : ℕ) : Type 0 where
  pub held : is_held worker.held ≡ holds_link journal by
  pub lost : worker.lost ≡ is_lost journal

abbrev pub is_failure : Start → Bool
is_failure Failed = true
is_failure _ = false

-- how many starts failed
abbrev pub failed_starts : List Event → ℕ
failed_starts journal = length (filter is_failure (tellings (λ t. t.start) journal))

-- a count that stands still at the greatest number of 64 bits rose by so many
abbrev pub RoseBy : ℕ → ℕ → ℕ → Type 0
RoseBy number before now = min (before + number) (2 ^ 64 - 1) ≤ now

-- since its start: the journal's talks fit the links, each failed start that is told was a fault of the spawner, and
-- batches begin while a link is held
pub record Keeps (first worker : Working) (journal : List Event) : Type 0 where
  pub told : FitTold first.records worker.records worker.held (talks journal)
  pub failed : RoseBy (failed_starts journal) first.faults worker.faults
  pub links : KeepsLinks journal

-- which goes on being true
abbrev pub KeepsOn : Working → List Event → Working → List Event → Type 0
KeepsOn old before new now = (first : Working) → Keeps first old before → Keeps first new now

-- which goes on being true where the spawner has counted one fault more
abbrev pub KeepsRisen : Working → List Event → Working → List Event → Type 0
KeepsRisen old before new now =
    (first : Working) (faults : ℕ) → Rose faults old.faults → Keeps first (record old { faults = faults }) before
    → Keeps first new now

-- which goes on being true of a worker that does nothing
abbrev pub KeepsBegun : List Event → List Event → Type 0
KeepsBegun before now = (first worker : Working) → Keeps first worker before → Keeps first worker now

-- the link that was held is given back
abbrev pub records_behind : Option (List LinkRecord) → Option Speaking → Option (List LinkRecord)
records_behind records None = records
records_behind records (Some link) =
    with_record records (record_of link.sent link.given link.more link.faults)

-- a talk over these documents was had over the link that is held
pub record Talked (old new : Working) (docs : List (List ℕ × Seq)) (came : Came) : Type 0 where
  pub before : Speaking
  pub after : Speaking
  pub was : old.held ≡ Some before
  pub is : new ≡ record old { held = Some after }
  pub talk : TalksAs before after docs came

-- there was no memory for it
pub record RanOut (old new : Working) (docs : List (List ℕ × Seq)) : Type 0 where
  pub before : Speaking
  pub after : Speaking
  pub was : old.held ≡ Some before
  pub is : new ≡ record old { held = Some after }
  pub talk : RunsOutAt before after docs
