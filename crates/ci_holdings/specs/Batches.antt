-- What beginning and finishing a batch does to a catalogue.
use Rattle.std.specs.Prelude.{◌≡◌, ◌≢◌, ◌+◌, ◌⊎◌, ℕ, List, [], Option, Some, None, Contains, length, take}
use Rattle.ci_change.specs.declared.batch.Batch.{Batch}
use Rattle.ci_change.specs.Pending.{docs_of}
use Rattle.ci_journal.specs.declared.event.Event.{Event}
use Rattle.ci_journal.specs.declared.event.Happened.{Happened}
use Rattle.ci_journal.specs.declared.event.Happened.TheVariants.{Begun}
use Rattle.ci_chunk.specs.declared.outcome.Outcome.{Outcome}
use Rattle.ci_journal.specs.Filings.{batches, out}
use Rattle.ci_journal.specs.Pending.{free}
use Rattle.ci_journal.specs.Tells.{event}
use Rattle.ci_journal.specs.Terms.{Terms}
use Rattle.ci_book.specs.declared.core_fault.CoreFault.{CoreFault}
use Rattle.ci_book.specs.declared.core_fault.CoreFault.TheVariants.{OutOfMemory}
use Rattle.ci_book.specs.Changes.{Stays}
use Rattle.ci_holdings.specs.Core.{Core}
use Rattle.ci_book.specs.Refusal.{tried_at}
use Rattle.ci_holdings.specs.Refusals.{Halts, IsOver, IsRefused}
use Rattle.ci_holdings.specs.Steps.{Makes, Rests, Told}

-- the next batch: the first free documents in the order of their notices, at most so many, and at
-- least one
pub record IsNextBatch (terms : Terms) (events : List Event) (max : ℕ) (batch : Batch) : Type 0 where
  pub number : batch.number ≡ length (batches events) + 1
  pub docs : batch.docs ≡ docs_of (take max (free terms events))
  pub some : batch.docs ≢ []

-- the next batch is out; or nothing is free, and nothing was done
abbrev pub Begins : Core → Core → ℕ → ℕ → Option Batch → Type 0
Begins old new by max None = (free old.terms old.sheet.events ≡ []) × Rests old new
Begins old new by max (Some batch) =
    IsNextBatch old.terms old.sheet.events max batch × Makes old new (event by (Begun batch))

-- there was no memory before it was known what would come
pub record Starved (old new : Core) : Type 0 where
  pub stays : Stays old.sheet new.sheet
  pub told : Told old new
  pub numbered : new.numbered ≡ old.numbered

-- why no batch was begun: there was no memory before it was known what would come, or its event
-- can't be added
abbrev pub HaltsBeginning : Core → Core → ℕ → ℕ → CoreFault → Option Happened → Type 0
HaltsBeginning old new by max fault tried =
    ((fault ≡ OutOfMemory) × (tried ≡ None) × Starved old new)
    ⊎ ((batch : Batch) × IsNextBatch old.terms old.sheet.events max batch
    × (tried ≡ tried_at fault (Begun batch))
    × Halts old new (event by (Begun batch)) fault)

-- it was the first refusal, and is kept
pub record IsStarved (old new : Core) (by : ℕ) : Type 0 where
  pub unrefused : old.refusal ≡ None
  pub starved : Starved old new
  pub kept : new.refusal ≡ Some (record {
    by = by;
    at = length old.sheet.events;
    fault = OutOfMemory;
    tried = None;
  })

-- beginning a batch was refused
abbrev pub RefusesBeginning : Core → Core → ℕ → ℕ → CoreFault → Type 0
RefusesBeginning old new by max fault =
    IsOver old new fault
    ⊎ (((fault ≡ OutOfMemory) × IsStarved old new by)
    ⊎ ((batch : Batch) × IsNextBatch old.terms old.sheet.events max batch
    × IsRefused old new (event by (Begun batch)) fault))

-- the batch is out, this author began it, and each of its documents has an outcome
pub record CanFinish (events : List Event) (by : ℕ) (batch : Batch) (outcomes : List Outcome)
    : Type 0 where
  pub is_out : Contains (out events) batch
  pub own : Contains events (event by (Begun batch))
  pub each : length outcomes ≡ length batch.docs
