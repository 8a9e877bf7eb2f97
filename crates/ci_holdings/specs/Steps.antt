-- What a step that isn't refused does to a catalogue: it adds its events, or nothing.
use Rattle.std.specs.Prelude.{◌≡◌, ◌≤◌, ℕ, List, [], ◌∷◌, ◌++◌, None, fold, map}
use Rattle.ci_base.specs.declared.numbers.Seq.{Seq}
use Rattle.ci_journal.specs.declared.event.Event.{Event}
use Rattle.ci_journal.specs.Bytes.{journal_bytes}
use Rattle.ci_journal.specs.Folds.{new_notices, with_path}
use Rattle.ci_journal.specs.Filings.{fates}
use Rattle.ci_journal.specs.Pending.{charges_in}
use Rattle.ci_journal.specs.Served.{live_map}
use Rattle.ci_journal.specs.Step.{step_of}
use Rattle.ci_book.specs.Changes.{Adds, Stays}
use Rattle.ci_holdings.specs.Core.{Core}

-- what a catalogue was told stays as it was
pub record Told (old new : Core) : Type 0 where
  pub terms : new.terms ≡ old.terms
  pub most : new.most ≡ old.most

-- a step is named by the event that it tells; these are its events behind the catalogue's journal
abbrev pub step_in : Core → Event → List Event
step_in core event = step_of core.terms core.sheet.events event.by event.what

-- the paths that are numbered behind some events: a notice numbers its path
abbrev pub numbered_behind : List (List ℕ) → List Event → List (List ℕ)
numbered_behind numbered events = fold with_path numbered (map (λ n. n.path) (new_notices events))

-- the step's events were added, within the bound
pub record Makes (old new : Core) (event : Event) : Type 0 where
  pub adds : Adds old.sheet new.sheet (step_in old event)
  pub within : journal_bytes new.sheet.events ≤ new.sheet.limit
  pub told : Told old new
  pub numbered : new.numbered ≡ numbered_behind old.numbered (step_in old event)

-- nothing was added
pub record Rests (old new : Core) : Type 0 where
  pub stays : Stays old.sheet new.sheet
  pub told : Told old new
  pub numbered : new.numbered ≡ old.numbered

-- a batch ended, which is never refused: its event was added, also behind a refusal and past the bound
pub record Ends (old new : Core) (event : Event) : Type 0 where
  pub adds : Adds old.sheet new.sheet (event ∷ [])
  pub told : Told old new
  pub numbered : new.numbered ≡ old.numbered
  pub refusal : new.refusal ≡ old.refusal

-- no step was refused, before and in this one
pub record IsUnrefused (old new : Core) : Type 0 where
  pub before : old.refusal ≡ None
  pub after : new.refusal ≡ None

-- no document's entry changed
abbrev pub KeepsMap : Core → Core → Type 0
KeepsMap old new = live_map old.terms new.sheet.events ≡ live_map old.terms old.sheet.events

-- attempts were spent on these documents, and on no other
abbrev pub Charges : Core → Core → List (List ℕ × Seq) → Type 0
Charges old new docs = charges_in (fates new.sheet.events) ≡ charges_in (fates old.sheet.events) ++ docs
