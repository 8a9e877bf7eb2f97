-- What a refused step leaves, and its cause.
use Rattle.std.specs.Prelude.{◌≡◌, ◌≤◌, ◌⊎◌, false, Some, None, Result, IfErr, OnOk, length}
use Rattle.ci_change.specs.declared.notice.Notice.{Notice}
use Rattle.ci_journal.specs.declared.event.Event.{Event}
use Rattle.ci_journal.specs.Bytes.{journal_bytes}
use Rattle.ci_journal.specs.Folds.{is_numbered}
use Rattle.ci_journal.specs.Step.{May}
use Rattle.ci_journal.specs.Tells.{tells}
use Rattle.ci_book.specs.declared.core_fault.CoreFault.{CoreFault}
use Rattle.ci_book.specs.declared.core_fault.CoreFault.TheVariants.{TooManyDocuments, JournalFull, OutOfMemory, WriteFault, Ended}
use Rattle.ci_book.specs.declared.refusal.Refusal.{Refusal}
use Rattle.ci_book.specs.Changes.{IsFull, Starves, Breaks, Stays}
use Rattle.ci_holdings.specs.Core.{Core}
use Rattle.ci_book.specs.Refusal.{tried_at}
use Rattle.ci_holdings.specs.Steps.{IsUnrefused, Makes, Told, step_in}

-- the event notes a path that is new, and as many paths are numbered as may be
pub record IsCrowded (old : Core) (event : Event) : Type 0 where
  pub notice : Notice
  pub notes : (tells event.what).notice ≡ Some notice
  pub new_path : is_numbered old.numbered notice.path ≡ false
  pub many : old.most ≤ length old.numbered

-- what a refusal of the step that tells this event leaves, and its cause; want of memory leaves open which paths are
-- numbered
abbrev pub Stops : Core → Core → Event → CoreFault → Type 0
Stops old new event TooManyDocuments =
    IsCrowded old event × Stays old.sheet new.sheet × (new.numbered ≡ old.numbered)
Stops old new event (JournalFull used more) =
    IsFull old.sheet new.sheet (journal_bytes (step_in old event)) used more × (new.numbered ≡ old.numbered)
Stops old new event OutOfMemory = Starves old.sheet new.sheet (journal_bytes (step_in old event))
Stops old new event WriteFault = Breaks old.sheet new.sheet event × (new.numbered ≡ old.numbered)
Stops old new event Ended = ⊥

-- and what the catalogue was told stays
abbrev pub Halts : Core → Core → Event → CoreFault → Type 0
Halts old new event fault = Told old new × Stops old new event fault

-- the step that tells this event is the first that is refused; it is kept with its author, its place, its cause and
-- the event, which might come behind the journal
pub record IsRefused (old new : Core) (event : Event) (fault : CoreFault) : Type 0 where
  pub unrefused : old.refusal ≡ None
  pub may : May old.terms old.sheet.events event.by event.what
  pub halts : Halts old new event fault
  pub kept : new.refusal ≡ Some (record {
    by = event.by;
    at = length old.sheet.events;
    fault = fault;
    tried = tried_at fault event.what;
  })

-- an earlier step was refused, and nothing changes
pub record IsOver (old new : Core) (fault : CoreFault) : Type 0 where
  pub ended : fault ≡ Ended
  pub refusal : Refusal
  pub earlier : old.refusal ≡ Some refusal
  pub same : new ≡ old

-- the step that tells this event is refused
abbrev pub Refuses : Core → Core → Event → CoreFault → Type 0
Refuses old new event fault = IsOver old new fault ⊎ IsRefused old new event fault

-- what is kept beside the first refusal makes the step that tells this event, or refuses it
pub record Tries {T : Type 0} (old new : Core) (event : Event) (result : Result T CoreFault) : Type 0 where
  pub ok : OnOk result (Makes old new event)
  pub refused : IfErr result (Halts old new event)

-- the catalogue makes the step that tells this event, or refuses it and keeps the refusal
pub record IsStep {T : Type 0} (old new : Core) (event : Event) (result : Result T CoreFault) : Type 0 where
  pub ok : OnOk result (Makes old new event)
  pub unrefused : OnOk result (IsUnrefused old new)
  pub refused : IfErr result (Refuses old new event)
