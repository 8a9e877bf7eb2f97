-- What a session was told and handed at its start, which no step changes, and what of it holds ever
-- after.
use Rattle.std.specs.Prelude.{◌≡◌, ℕ, List, Option, Some, None}
use Rattle.std.specs.Io.KnownBytes.{Appends}
use Rattle.ci_io.specs.Causes.{Rose}
use Rattle.ci_journal.specs.Printed.{PrintsCut, printed}
use Rattle.ci_journal.specs.Terms.{Terms}
use Rattle.ci_book.specs.declared.core_fault.CoreFault.{CoreFault}
use Rattle.ci_book.specs.declared.core_fault.CoreFault.TheVariants.{TooManyDocuments, JournalFull, OutOfMemory, WriteFault, Ended}
use Rattle.ci_book.specs.declared.refusal.Refusal.{Refusal}
use Rattle.ci_holdings.specs.Core.{Core}
use Rattle.ci_book.specs.Sheet.{Sheet}

-- the settings, and of the sink its bytes, where it tells them, and its count of faults
pub record Fixed : Type 0 where
  pub limit : ℕ
  pub most : ℕ
  pub terms : Terms
  pub written : Option (List ℕ)
  pub faults : ℕ

-- behind what the sink had, the whole journal is printed
pub record PrintsAll (fixed : Fixed) (sheet : Sheet) : Type 0 where
  pub written : Appends fixed.written sheet.written (printed sheet.events)
  pub faults : sheet.faults ≡ fixed.faults

-- the sink failed while an event was printed, and bytes at the end of its lines lack
pub record BreaksOff (fixed : Fixed) (sheet : Sheet) : Type 0 where
  pub cut : PrintsCut fixed.written sheet.written sheet.events
  pub rose : Rose fixed.faults sheet.faults

abbrev pub PrintsAt : Fixed → Sheet → CoreFault → Type 0
PrintsAt fixed sheet TooManyDocuments = PrintsAll fixed sheet
PrintsAt fixed sheet (JournalFull used more) = PrintsAll fixed sheet
PrintsAt fixed sheet OutOfMemory = PrintsAll fixed sheet
PrintsAt fixed sheet WriteFault = BreaksOff fixed sheet
PrintsAt fixed sheet Ended = PrintsAll fixed sheet

abbrev pub PrintsAfter : Fixed → Sheet → Option Refusal → Type 0
PrintsAfter fixed sheet None = PrintsAll fixed sheet
PrintsAfter fixed sheet (Some refusal) = PrintsAt fixed sheet refusal.fault

-- the catalogue has this fixed part
pub record HasFixed (fixed : Fixed) (core : Core) : Type 0 where
  pub limit : core.sheet.limit ≡ fixed.limit
  pub most : core.most ≡ fixed.most
  pub terms : core.terms ≡ fixed.terms
  pub prints : PrintsAfter fixed core.sheet core.refusal

-- a step keeps each fixed part
abbrev pub KeepsFixed : Core → Core → Type 0
KeepsFixed old new = (fixed : Fixed) → HasFixed fixed old → HasFixed fixed new
