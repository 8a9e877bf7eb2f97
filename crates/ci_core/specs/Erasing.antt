-- What erasing a path does to a catalogue.
use Rattle.std.specs.Prelude.{◌⊎◌, ℕ, Bool, true, false, List}
use Rattle.ci_base.specs.declared.numbers.Seq.{Seq}
use Rattle.ci_journal.specs.declared.event.Happened.TheVariants.{Erased}
use Rattle.ci_journal.specs.Step.{MayErase}
use Rattle.ci_book.specs.declared.core_fault.CoreFault.{CoreFault}
use Rattle.ci_journal.specs.Tells.{event}
use Rattle.ci_holdings.specs.Core.{Core}
use Rattle.ci_holdings.specs.Refusals.{IsOver, IsRefused}
use Rattle.ci_holdings.specs.Steps.{Makes, Rests}

-- a deletion of the path was pending, and the path is erased under its number; or none was, and
-- nothing was done
abbrev pub Erases : Core → Core → ℕ → List ℕ → Bool → Type 0
Erases old new by path true =
    (seq : Seq) × MayErase old.terms old.sheet.events path seq × Makes old new (event by (Erased path seq))
Erases old new by path false =
    ((seq : Seq) → ¬ MayErase old.terms old.sheet.events path seq) × Rests old new

-- the erasure under the number of the pending deletion was refused
abbrev pub RefusesErasing : Core → Core → ℕ → List ℕ → CoreFault → Type 0
RefusesErasing old new by path fault =
    IsOver old new fault ⊎ ((seq : Seq) × IsRefused old new (event by (Erased path seq)) fault)
