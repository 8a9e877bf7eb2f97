-- Which step may come behind a journal, which events it adds, and the journals that come about so.
use Rattle.std.specs.Prelude.{◌≡◌, ◌≢◌, ◌<◌, ◌≤◌, ◌+◌, ◌==◌, ◌&&◌, ⊤, ℕ, true, false, List, [], ◌∷◌, ◌++◌, length, take, Option, Some, None, Contains, if◌then◌else◌}
use Rattle.std.specs.declared.cmp.Ordering.TheVariants.{Less}
use Rattle.ci_base.specs.declared.numbers.Seq.{Seq}
use Rattle.ci_change.specs.declared.batch.Batch.{Batch}
use Rattle.ci_change.specs.declared.notice.Notice.{Notice}
use Rattle.ci_change.specs.declared.notice.What.TheVariants.{Changed, Deleted}
use Rattle.ci_change.specs.Pending.{docs_of}
use Rattle.ci_chunk.specs.declared.outcome.Outcome.{Outcome}
use Rattle.ci_dialect.specs.declared.restriction.Restriction.{Restriction}
use Rattle.ci_keys.specs.declared.key.Key.{Key}
use Rattle.ci_keys.specs.Key.{key_cmp}
use Rattle.ci_journal.specs.declared.event.Event.{Event}
use Rattle.ci_journal.specs.declared.event.Happened.{Happened}
use Rattle.ci_journal.specs.declared.event.Happened.TheVariants.{Asked, Noted, Put, Erased, Started, StartFailed, DaemonLost, Begun, BatchDone, BatchDied, Returned, Shadowed, MasterBegun, MasterStep, MasterEnded, Opened, Answered, Said}
use Rattle.ci_journal.specs.Tells.{event, last_of}
use Rattle.ci_journal.specs.Folds.{requests_in, next_notice, latest, is_replied}
use Rattle.ci_journal.specs.Filings.{out, batches}
use Rattle.ci_journal.specs.Pending.{unserved_notices, free}
use Rattle.ci_journal.specs.Shape.{lists, most_lists, merge, is_half}
use Rattle.ci_journal.specs.Daemon.{failures, most_failures}
use Rattle.ci_journal.specs.Queries.{IsFirstWaiting, IsAnswer}
use Rattle.ci_journal.specs.Terms.{Merge, Terms, in_scope}
use Rattle.ci_journal.specs.Terms.Merge.{Running}

-- ---- what must hold before an event

-- a request has the next number, and the foreground asks it
pub record MayAsk (journal : List Event) (by id : ℕ) : Type 0 where
  pub foreground : by ≡ 0
  pub next : id ≡ length (requests_in journal) + 1

-- a notice has the next number and a path in scope, and the foreground notes it
pub record MayNote (terms : Terms) (journal : List Event) (by : ℕ) (notice : Notice) : Type 0 where
  pub foreground : by ≡ 0
  pub scope : in_scope terms notice.path ≡ true
  pub next : notice.seq.0 ≡ next_notice terms journal

-- the foreground puts pieces under the path's latest notice
pub record MayPut (terms : Terms) (journal : List Event) (by : ℕ) (notice : Notice) : Type 0 where
  pub foreground : by ≡ 0
  pub current : latest terms journal notice.path ≡ Some notice

-- the path's latest notice is a deletion of this number, and nothing served it
abbrev pub MayErase : Terms → List Event → List ℕ → Seq → Type 0
MayErase terms journal path seq =
    Contains (unserved_notices terms journal) (record { path = path; seq = seq; what = Deleted })

-- the start before it was one failure too many, and its own author tells it right behind
pub record MayLose (journal : List Event) (by : ℕ) : Type 0 where
  pub behind : last_of journal ≡ Some (event by StartFailed)
  pub count : failures journal ≡ most_failures

-- a batch has the next number, and the first of the free documents in the order of their notices
pub record MayBegin (terms : Terms) (journal : List Event) (batch : Batch) : Type 0 where
  pub next : batch.number ≡ length (batches journal) + 1
  pub some : batch.docs ≢ []
  pub most : ℕ
  pub first : batch.docs ≡ docs_of (take most (free terms journal))

-- the batch is out, and its author ends it
pub record MayEnd (journal : List Event) (by number : ℕ) (batch : Batch) : Type 0 where
  pub is_out : Contains (out journal) batch
  pub numbered : batch.number ≡ number
  pub own : Contains journal (event by (Begun batch))

-- each of its documents has an outcome
abbrev pub MayFinish : List Event → ℕ → ℕ → List Outcome → Type 0
MayFinish journal by number outcomes =
    (batch : Batch) × MayEnd journal by number batch × (length outcomes ≡ length batch.docs)

-- it died within one of its documents
abbrev pub MayDie : List Event → ℕ → ℕ → ℕ → Type 0
MayDie journal by number charged =
    (batch : Batch) × MayEnd journal by number batch × (charged < length batch.docs)

-- the key is above the one that the merge stands behind
abbrev pub IsAbove : Option Key → Key → Type 0
IsAbove None key = ⊤
IsAbove (Some split) key = key_cmp split key ≡ Less

abbrev pub MaySplit : Merge → Key → Type 0
MaySplit (Running split) key = IsAbove split key
MaySplit _ key = ⊥

pub record MayAnswer (terms : Terms) (journal : List Event) (id at : ℕ) (paths : List (List ℕ)) : Type 0 where
  pub unreplied : is_replied journal id ≡ false
  pub right : IsAnswer terms journal id at paths

-- a request that was asked has no reply yet
pub record MaySay (journal : List Event) (id : ℕ) : Type 0 where
  pub numbered : 0 < id
  pub asked_before : id ≤ length (requests_in journal)
  pub unreplied : is_replied journal id ≡ false

-- this event of this author may come behind the journal
abbrev pub May : Terms → List Event → ℕ → Happened → Type 0
May terms journal by (Asked id request) = MayAsk journal by id
May terms journal by (Noted notice) = MayNote terms journal by notice
May terms journal by (Put path seq transcript) =
    MayPut terms journal by (record { path = path; seq = seq; what = Changed })
May terms journal by (Erased path seq) = MayErase terms journal path seq
May terms journal by Started = ⊤
May terms journal by StartFailed = ⊤
May terms journal by DaemonLost = MayLose journal by
May terms journal by (Begun batch) = MayBegin terms journal batch
May terms journal by (BatchDone number outcomes) = MayFinish journal by number outcomes
May terms journal by (BatchDied number charged) = MayDie journal by number charged
May terms journal by (Returned number) = (batch : Batch) × MayEnd journal by number batch
May terms journal by Shadowed = lists journal ≢ 0
May terms journal by MasterBegun = is_half (merge terms journal) ≡ false
May terms journal by (MasterStep split) = MaySplit (merge terms journal) split
May terms journal by MasterEnded = is_half (merge terms journal) ≡ true
May terms journal by (Opened id) = (tree : Restriction) × IsFirstWaiting terms journal id tree
May terms journal by (Answered id at paths) = MayAnswer terms journal id at paths
May terms journal by (Said id reply) = MaySay journal id

-- ---- what a step adds

-- a word list more has no room: the lists become a shadow first
abbrev pub shadow_before : Terms → List Event → ℕ → List Event
shadow_before terms journal by =
    if terms.in_lists && lists journal == most_lists then event by Shadowed ∷ [] else []

-- a failed start is the last that is tried
abbrev pub loss_behind : List Event → ℕ → List Event
loss_behind journal by = if failures journal + 1 == most_failures then event by DaemonLost ∷ [] else []

-- the events of the step that tells this, behind the journal
abbrev pub step_of : Terms → List Event → ℕ → Happened → List Event
step_of terms journal by (Put path seq transcript) =
    shadow_before terms journal by ++ event by (Put path seq transcript) ∷ []
step_of terms journal by (Erased path seq) = shadow_before terms journal by ++ event by (Erased path seq) ∷ []
step_of terms journal by (BatchDone number outcomes) =
    shadow_before terms journal by ++ event by (BatchDone number outcomes) ∷ []
step_of terms journal by StartFailed = event by StartFailed ∷ loss_behind journal by
step_of terms journal by what = event by what ∷ []

-- journals whose every step might come behind those before it
pub data Run (terms : Terms) : List Event → Type 0 where
  Empty : Run terms []
  Step : (journal : List Event) (by : ℕ) (what : Happened) → Run terms journal → May terms journal by what
      → Run terms (journal ++ step_of terms journal by what)

-- journals whose every event might come behind those before it
pub data Chain (terms : Terms) : List Event → Type 0 where
  NoEvent : Chain terms []
  Next : (journal : List Event) (e : Event) → Chain terms journal → May terms journal e.by e.what
      → Chain terms (journal ++ e ∷ [])
