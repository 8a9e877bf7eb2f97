-- What each event tells. Whatever a journal tells as a whole is read off this table.
use Rattle.std.specs.Prelude.{ℕ, ◌-◌, Bool, true, false, List, Option, Some, None, filter_map, length, slice_get}
use Rattle.ci_base.specs.declared.numbers.Seq.{Seq}
use Rattle.ci_change.specs.declared.batch.Batch.{Batch}
use Rattle.ci_change.specs.declared.notice.Notice.{Notice}
use Rattle.ci_chunk.specs.declared.outcome.Outcome.{Outcome}
use Rattle.ci_chunk.specs.declared.piece.Piece.{Piece}
use Rattle.ci_keys.specs.declared.key.Key.{Key}
use Rattle.ci_journal.specs.declared.event.Event.{Event}
use Rattle.ci_journal.specs.declared.event.Happened.{Happened}
use Rattle.ci_journal.specs.declared.event.Happened.TheVariants.{Asked, Noted, Put, Erased, Started, StartFailed, DaemonLost, Begun, BatchDone, BatchDied, Returned, Shadowed, MasterBegun, MasterStep, MasterEnded, Opened, Answered, Said}
use Rattle.ci_journal.specs.declared.request.Request.{Request}

-- what became of a document under a notice: it was filtered, it was taken away, an attempt was spent on it, or its
-- filter refused it
pub data Fate : Type 0 where
  Filtered : List Piece → Fate
  Gone : Fate
  Charged : Fate
  Refused : Fate

pub record Filing : Type 0 where
  pub path : List ℕ
  pub seq : Seq
  pub fate : Fate

-- how a batch ends: each document has its outcome, it died within the document at a place, or it was given back
pub data Ending : Type 0 where
  Through : List Outcome → Ending
  Within : ℕ → Ending
  Back : Ending

-- what is filed: the fate of a document, a batch that begins, or the end of the batch of a number
pub data Filed : Type 0 where
  One : Filing → Filed
  Begins : Batch → Filed
  Ends : ℕ → Ending → Filed

-- the layer of the index that an event makes
pub data Layer : Type 0 where
  WordList : Layer
  Shadow : Layer
  Half : Layer
  Slice : Key → Layer
  Master : Layer

-- how a start of the daemon went; at the last, no other is tried
pub data Start : Type 0 where
  Came : Start
  Failed : Start
  Lost : Start

-- a request, a notice, what is filed, a layer, a start, whether its author holds a link from now on, and the number of
-- a request that was opened or has its reply
pub record Tells : Type 0 where
  pub request : Option Request
  pub notice : Option Notice
  pub filed : Option Filed
  pub layer : Option Layer
  pub start : Option Start
  pub link : Option Bool
  pub opening : Option ℕ
  pub reply : Option ℕ

abbrev pub nothing : Tells
nothing = record {
  request = None;
  notice = None;
  filed = None;
  layer = None;
  start = None;
  link = None;
  opening = None;
  reply = None;
}

abbrev pub one_filing : List ℕ → Seq → Fate → Option Filed
one_filing path seq fate = Some (One (record { path = path; seq = seq; fate = fate }))

-- a line for each kind of event
abbrev pub tells : Happened → Tells
tells (Asked id request) = record nothing { request = Some request }
tells (Noted notice) = record nothing { notice = Some notice }
tells (Put path seq transcript) =
    record nothing { filed = one_filing path seq (Filtered transcript); layer = Some WordList }
tells (Erased path seq) = record nothing { filed = one_filing path seq Gone; layer = Some WordList }
tells Started = record nothing { start = Some Came; link = Some true }
tells StartFailed = record nothing { start = Some Failed }
tells DaemonLost = record nothing { start = Some Lost }
tells (Begun batch) = record nothing { filed = Some (Begins batch) }
tells (BatchDone number outcomes) =
    record nothing { filed = Some (Ends number (Through outcomes)); layer = Some WordList }
tells (BatchDied number charged) =
    record nothing { filed = Some (Ends number (Within charged)); link = Some false }
tells (Returned number) = record nothing { filed = Some (Ends number Back) }
tells Shadowed = record nothing { layer = Some Shadow }
tells MasterBegun = record nothing { layer = Some Half }
tells (MasterStep split) = record nothing { layer = Some (Slice split) }
tells MasterEnded = record nothing { layer = Some Master }
tells (Opened id) = record nothing { opening = Some id }
tells (Answered id at paths) = record nothing { reply = Some id }
tells (Said id reply) = record nothing { reply = Some id }

-- all that a journal tells in one column, in order
abbrev pub tellings : {X : Type 0} → (Tells → Option X) → List Event → List X
tellings column journal = filter_map (λ e. column (tells e.what)) journal

abbrev pub last_of : {X : Type 0} → List X → Option X
last_of list = slice_get list (length list - 1)

-- what happened, with its author
abbrev pub event : ℕ → Happened → Event
event by what = record { by = by; what = what }
