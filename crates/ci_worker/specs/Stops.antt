-- Where a session stops, and why.
use Rattle.std.specs.Prelude.{◌≡◌, ◌<◌, ◌≤◌, ℕ, false, List, [], ◌∷◌, ◌++◌, None, All, length}
use Rattle.ci_change.specs.declared.batch.Batch.{Batch}
use Rattle.ci_change.specs.Pending.{latest_number, served_number}
use Rattle.ci_journal.specs.declared.event.Event.{Event}
use Rattle.ci_journal.specs.Bytes.{journal_bytes}
use Rattle.ci_journal.specs.Filings.{out}
use Rattle.ci_journal.specs.Folds.{next_notice, notices, numbered_paths}
use Rattle.ci_journal.specs.Printed.{lines_of}
use Rattle.ci_journal.specs.Served.{served_numbers}
use Rattle.ci_journal.specs.Step.{May}
use Rattle.ci_journal.specs.Terms.{Terms}
use Rattle.ci_book.specs.declared.core_fault.CoreFault.{CoreFault}
use Rattle.ci_book.specs.declared.core_fault.CoreFault.TheVariants.{TooManyDocuments, JournalFull, OutOfMemory, WriteFault, Ended}
use Rattle.ci_book.specs.Changes.{IsFull}
use Rattle.ci_holdings.specs.Core.{Core}
use Rattle.ci_core.specs.Fixed.{Fixed, HasFixed, KeepsFixed, PrintsAt}
use Rattle.ci_holdings.specs.Refusals.{IsCrowded}
use Rattle.ci_holdings.specs.Steps.{Told, step_in}

-- each document of the batches has a number below this one
abbrev pub AreBelow : ℕ → List Batch → Type 0
AreBelow next batches = All (λ b. All (λ d. d.1.0 < next) b.docs) batches

-- the next notice has a number above those of all notices, above those under which paths were served, and above those of
-- the documents that are out
pub record AreBelowNext (terms : Terms) (events : List Event) : Type 0 where
  pub latest : (path : List ℕ) → latest_number (notices terms events) path < next_notice terms events
  pub served : (path : List ℕ) → served_number (served_numbers terms events) path < next_notice terms events
  pub out : AreBelow (next_notice terms events) (out events)

-- no step was refused so far: the numbered paths are those that were noted, and no more than may be; and entries aren't
-- kept in word lists, so that no shadow comes before one
pub record IsSound (core : Core) : Type 0 where
  pub unrefused : core.refusal ≡ None
  pub numbered : core.numbered ≡ numbered_paths core.terms core.sheet.events
  pub room : length core.numbered ≤ core.most
  pub below : AreBelowNext core.terms core.sheet.events
  pub plain : core.terms.in_lists ≡ false

-- what the catalogue was told, and what holds of it ever after, stays
pub record Remains (old new : Core) : Type 0 where
  pub limit : new.sheet.limit ≡ old.sheet.limit
  pub told : Told old new
  pub fixed : KeepsFixed old new

-- the step that tells this event may come next, and the journal fits with its events
pub record IsNext (Fits : List Event → Type 0) (core : Core) (event : Event) : Type 0 where
  pub fits : Fits (core.sheet.events ++ step_in core event)
  pub may : May core.terms core.sheet.events event.by event.what

-- the next step was refused, for this cause; a path too many is told before a full journal, and want of memory may
-- come of what the step needs first
abbrev pub Halts : (List Event → Type 0) → Core → Core → CoreFault → Type 0
Halts Fits old new TooManyDocuments =
    (event : Event) × IsNext Fits old event × IsCrowded old event × (new.sheet.events ≡ old.sheet.events)
Halts Fits old new (JournalFull used more) =
    (event : Event) × IsNext Fits old event × IsFull old.sheet new.sheet (journal_bytes (step_in old event)) used more
    × (IsCrowded old event → ⊥)
Halts Fits old new OutOfMemory = new.sheet.events ≡ old.sheet.events
Halts Fits old new WriteFault =
    (event : Event) × IsNext Fits old event × (0 < length (lines_of event.what)) × (new.sheet.events ≡ old.sheet.events ++ event ∷ [])
Halts Fits old new Ended = ⊥

-- these events were added, by steps that were not refused
pub record IsAt (old now : Core) (steps : List Event) : Type 0 where
  pub events : now.sheet.events ≡ old.sheet.events ++ steps
  pub remains : Remains old now
  pub sound : IsSound now

-- events were added, so that the journal fits, and then a step was refused
pub record StopsIn (Fits : List Event → Type 0) (old new : Core) (fault : CoreFault) : Type 0 where
  pub mid : Core
  pub remains : Remains old mid
  pub sound : IsSound mid
  pub fits : Fits mid.sheet.events
  pub halts : Halts Fits mid new fault
  pub fixed : KeepsFixed old new
  pub prints : (fixed : Fixed) → HasFixed fixed old → PrintsAt fixed new.sheet fault
