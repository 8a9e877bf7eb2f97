-- A session that stops at a refused step.
use Rattle.std.proofs.Common.{arith, ◌≡◌, ◌<◌, ◌∙◌, ℕ, false, List, [], ◌∷◌, ◌++◌, length, ◌⊎◌, Option, Some, None, ⊎_elim, refl, sym, subst}
use Rattle.ci_io.specs.Putting.{AppendsFront}
use Rattle.ci_journal.specs.declared.event.Event.{Event}
use Rattle.ci_journal.specs.declared.event.Happened.{Happened}
use Rattle.ci_journal.specs.declared.event.Happened.TheVariants.{Asked, Noted, Put, Erased, Started, StartFailed, DaemonLost, Begun, BatchDone, BatchDied, Returned, Shadowed, MasterBegun, MasterStep, MasterEnded, Opened, Answered, Said}
use Rattle.ci_journal.specs.Printed.{lines_of}
use Rattle.ci_book.specs.declared.core_fault.CoreFault.{CoreFault}
use Rattle.ci_book.specs.declared.core_fault.CoreFault.TheVariants.{TooManyDocuments, JournalFull, OutOfMemory, WriteFault, Ended}
use Rattle.ci_holdings.specs.Core.{Core}
use Rattle.ci_core.specs.Fixed.{KeepsFixed, PrintsAfter}
use Rattle.ci_journal.specs.Tells.{tells}
use Rattle.ci_holdings.specs.Refusals.{IsCrowded, IsOver, Refuses, Stops}
use Rattle.ci_holdings.specs.Steps.{step_in}
use Rattle.ci_holdings.proofs.HaltsLemmas.{is_failed}
use Rattle.ci_worker.specs.Stops.{Halts, IsNext, IsSound, Remains, StopsIn}
use Rattle.ci_worker.proofs.StepLemmas.{Remains-refl, Remains-trans, one_event}

-- what prints lines is neither a notice nor a failed start
pub record IsReply (what : Happened) : Type 0 where
  pub no_notice : (tells what).notice ≡ None
  pub no_failure : is_failed what ≡ false

pub prints-reply : (what : Happened) → 0 < length (lines_of what) → IsReply what
prints-reply (Noted notice) some = absurd (omega arith)
prints-reply (Asked id request) some = record { no_notice = refl; no_failure = refl }
prints-reply (Put path seq transcript) some = record { no_notice = refl; no_failure = refl }
prints-reply (Erased path seq) some = record { no_notice = refl; no_failure = refl }
prints-reply Started some = record { no_notice = refl; no_failure = refl }
prints-reply StartFailed some = absurd (omega arith)
prints-reply DaemonLost some = record { no_notice = refl; no_failure = refl }
prints-reply (Begun batch) some = record { no_notice = refl; no_failure = refl }
prints-reply (BatchDone number outcomes) some = record { no_notice = refl; no_failure = refl }
prints-reply (BatchDied number charged) some = record { no_notice = refl; no_failure = refl }
prints-reply (Returned number) some = record { no_notice = refl; no_failure = refl }
prints-reply Shadowed some = record { no_notice = refl; no_failure = refl }
prints-reply MasterBegun some = record { no_notice = refl; no_failure = refl }
prints-reply (MasterStep split) some = record { no_notice = refl; no_failure = refl }
prints-reply MasterEnded some = record { no_notice = refl; no_failure = refl }
prints-reply (Opened id) some = record { no_notice = refl; no_failure = refl }
prints-reply (Answered id at paths) some = record { no_notice = refl; no_failure = refl }
prints-reply (Said id reply) some = record { no_notice = refl; no_failure = refl }

-- a reply was being printed, and its event stands alone
pub cut-off : (Fits : List Event → Type 0) (old new : Core) (stops : StopsIn Fits old new WriteFault) → step_in stops.mid stops.halts.0 ≡ stops.halts.0 ∷ []
cut-off Fits old new stops = one_event stops.mid stops.halts.0 stops.sound (prints-reply stops.halts.0.what stops.halts.2).no_failure

-- the journal that is left fits
pub Fits-stops : (Fits : List Event → Type 0) (old new : Core) (fault : CoreFault) → StopsIn Fits old new fault → Fits new.sheet.events
Fits-stops Fits old new TooManyDocuments stops = subst Fits (sym stops.halts.3) stops.fits
Fits-stops Fits old new (JournalFull used more) stops = subst Fits (sym stops.halts.2.stays.events) stops.fits
Fits-stops Fits old new OutOfMemory stops = subst Fits (sym stops.halts) stops.fits
Fits-stops Fits old new WriteFault stops =
    subst Fits (sym stops.halts.3) (subst (λ es. Fits (stops.mid.sheet.events ++ es)) (cut-off Fits old new stops) stops.halts.1.fits)
Fits-stops Fits old new Ended stops = absurd stops.halts

-- what holds of each journal that fits, and where the session began before
module _ (Fits Holds : List Event → Type 0) (holds : (journal : List Event) → Fits journal → Holds journal) where
  IsNext-map : (core : Core) (event : Event) → IsNext Fits core event → IsNext Holds core event
  IsNext-map core event next = record { fits = holds (core.sheet.events ++ step_in core event) next.fits; may = next.may }

  Halts-map : (old new : Core) (fault : CoreFault) → Halts Fits old new fault → Halts Holds old new fault
  Halts-map old new TooManyDocuments halts = (halts.0, IsNext-map old halts.0 halts.1, halts.2, halts.3)
  Halts-map old new (JournalFull used more) halts = (halts.0, IsNext-map old halts.0 halts.1, halts.2, halts.3)
  Halts-map old new OutOfMemory halts = halts
  Halts-map old new WriteFault halts = (halts.0, IsNext-map old halts.0 halts.1, halts.2, halts.3)
  Halts-map old new Ended halts = halts

  pub StopsIn-map : (start old new : Core) (fault : CoreFault) → Remains start old → StopsIn Fits old new fault → StopsIn Holds start new fault
  StopsIn-map start old new fault remains stops = record {
    mid = stops.mid;
    remains = Remains-trans start old stops.mid remains stops.remains;
    sound = stops.sound;
    fits = holds stops.mid.sheet.events stops.fits;
    halts = Halts-map stops.mid new fault stops.halts;
    fixed = λ fixed has. stops.fixed fixed (remains.fixed fixed has);
    prints = λ fixed has. stops.prints fixed (remains.fixed fixed has);
  }

-- only lines can be cut off
some_lines : (old new : Option (List ℕ)) (bytes : List ℕ) → AppendsFront old new bytes → 0 < length bytes
some_lines old new bytes front = omega (arith, front.1)

-- the event notes no path, or a full journal isn't told where it notes one too many
abbrev pub NotesInRoom : Core → Event → CoreFault → Type 0
NotesInRoom core event fault =
    ((tells event.what).notice ≡ None) ⊎ ((used more : ℕ) → fault ≡ JournalFull used more → IsCrowded core event → ⊥)

uncrowded : (core : Core) (event : Event) (used more : ℕ) → NotesInRoom core event (JournalFull used more) → IsCrowded core event → ⊥
uncrowded core event used more room crowd =
    ⊎_elim (λ none. let both : None ≡ Some crowd.notice = sym none ∙ crowd.notes in absurd (cc)) (λ no. no used more refl crowd) room

Halts-from_stops : (Fits : List Event → Type 0) (old new : Core) (event : Event) (fault : CoreFault) → IsNext Fits old event → NotesInRoom old event fault → Stops old new event fault → Halts Fits old new fault
Halts-from_stops Fits old new event TooManyDocuments next room stops = (event, next, stops.0, stops.1.events)
Halts-from_stops Fits old new event (JournalFull used more) next room stops = (event, next, stops.0, uncrowded old event used more room)
Halts-from_stops Fits old new event OutOfMemory next room stops = stops.stays.events
Halts-from_stops Fits old new event WriteFault next room stops = (event, next, some_lines _ _ _ stops.0.written, stops.0.events)
Halts-from_stops Fits old new event Ended next room stops = absurd stops

pub never_over : (old new : Core) (fault : CoreFault) → IsSound old → IsOver old new fault → ⊥
never_over old new fault sound over = let both : None ≡ Some over.refusal = sym sound.unrefused ∙ over.earlier in cc

-- the step that tells this event was refused
pub StopsIn-halted : (Fits : List Event → Type 0) (old new : Core) (event : Event) (fault : CoreFault) → IsSound old → Fits old.sheet.events → Fits (old.sheet.events ++ step_in old event)
    → Refuses old new event fault → KeepsFixed old new → NotesInRoom old event fault → StopsIn Fits old new fault
StopsIn-halted Fits old new event fault sound fits fits_on refuses keeps room =
    ⊎_elim (λ over. absurd (never_over old new fault sound over))
    (λ refused. record {
      mid = old;
      remains = Remains-refl old;
      sound = sound;
      fits = fits;
      halts = Halts-from_stops Fits old new event fault (record { fits = fits_on; may = refused.may }) room refused.halts.1;
      fixed = keeps;
      prints = λ fixed has. subst (PrintsAfter fixed new.sheet) refused.kept (keeps fixed has).prints;
    }) refuses

-- and it has one event
pub StopsIn-refused : (Fits : List Event → Type 0) (old new : Core) (event : Event) (fault : CoreFault) → IsSound old → is_failed event.what ≡ false → Fits old.sheet.events → Fits (old.sheet.events ++ event ∷ [])
    → Refuses old new event fault → KeepsFixed old new → NotesInRoom old event fault → StopsIn Fits old new fault
StopsIn-refused Fits old new event fault sound other fits fits_on refuses keeps room =
    StopsIn-halted Fits old new event fault sound fits (subst (λ es. Fits (old.sheet.events ++ es)) (sym (one_event old event sound other)) fits_on) refuses keeps room

-- an event that prints nothing isn't cut off, so that the journal is as it was
pub refused-same : (old new : Core) (event : Event) (fault : CoreFault) → IsSound old → length (lines_of event.what) ≡ 0 → Refuses old new event fault → new.sheet.events ≡ old.sheet.events
refused-same old new event fault sound silent refuses =
    ⊎_elim (λ over. absurd (never_over old new fault sound over)) (λ refused. by fault refused.halts.1) refuses
  where
    by : (fault : CoreFault) → Stops old new event fault → new.sheet.events ≡ old.sheet.events
    by TooManyDocuments stops = stops.1.events
    by (JournalFull used more) stops = stops.0.stays.events
    by OutOfMemory stops = stops.stays.events
    by WriteFault stops = let some = some_lines _ _ _ stops.0.written in absurd (omega (arith, some, silent))
    by Ended stops = absurd stops

-- there was no memory for what a step needs first
pub StopsIn-starved : (Fits : List Event → Type 0) (core : Core) → IsSound core → Fits core.sheet.events → StopsIn Fits core core OutOfMemory
StopsIn-starved Fits core sound fits = record {
  mid = core;
  remains = Remains-refl core;
  sound = sound;
  fits = fits;
  halts = refl;
  fixed = λ fixed has. has;
  prints = λ fixed has. subst (PrintsAfter fixed core.sheet) sound.unrefused has.prints;
}
