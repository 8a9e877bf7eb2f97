-- What a refusal of a part says of the step that wanted it.
use Rattle.std.proofs.Common.{arith, inr, ◌≡◌, ◌≤◌, ℕ, Bool, List, [], ◌∷◌, Option, Some, None, true, false, length, refl}
use Rattle.std.specs.Io.KnownBytes.{Keeps}
use Rattle.ci_change.specs.declared.notice.Notice.{Notice}
use Rattle.ci_change.specs.declared.notice.What.{What}
use Rattle.ci_journal.specs.declared.event.Event.{Event}
use Rattle.ci_journal.specs.declared.event.Happened.{Happened}
use Rattle.ci_journal.specs.declared.event.Happened.TheVariants.{Asked, Noted, Put, Erased, Started, StartFailed, DaemonLost, Begun, BatchDone, BatchDied, Returned, Shadowed, MasterBegun, MasterStep, MasterEnded, Opened, Answered, Said}
use Rattle.ci_journal.specs.Bytes.{capped, journal_bytes}
use Rattle.ci_journal.specs.Step.{step_of}
use Rattle.ci_journal.specs.Tells.{event}
use Rattle.ci_journal.specs.Terms.{Terms}
use Rattle.ci_journal.specs.Folds.{is_numbered}
use Rattle.ci_book.specs.declared.core_fault.CoreFault.{CoreFault}
use Rattle.ci_book.specs.declared.core_fault.CoreFault.TheVariants.{TooManyDocuments, JournalFull, OutOfMemory, WriteFault, Ended}
use Rattle.ci_book.specs.declared.settings.TheConstants.{JOURNAL_MOST}
use Rattle.ci_paths.specs.declared.number_faults.NumberFault.{NumberFault}
use Rattle.ci_paths.specs.declared.number_faults.NumberFault.TheVariants as number
use Rattle.ci_book.specs.Faults.{fault_of_number}
use Rattle.ci_book.specs.Changes.{IsReady, LacksRoom, Stays, noted}
use Rattle.ci_change.specs.declared.batch.Batch.{Batch}
use Rattle.ci_book.specs.Refusal.{tried_at}
use Rattle.ci_holdings.specs.Batches.{HaltsBeginning, IsNextBatch}
use Rattle.ci_holdings.specs.Core.{Core}
use Rattle.ci_book.specs.Sheet.{Sheet}
use Rattle.ci_holdings.specs.Refusals.{Halts, IsCrowded, Stops}
use Rattle.ci_holdings.specs.Steps.{Rests, Told, step_in}
use Rattle.ci_book.proofs.ChangesLemmas.{LacksRoom-counted, Starves-from_IsReady}

-- a start that failed, the one event whose step may have another behind it
abbrev pub is_failed : Happened → Bool
is_failed StartFailed = true
is_failed _ = false

pub Stops-from_LacksRoom : (old new : Core) (event : Event) (fault : CoreFault) → LacksRoom old.sheet new.sheet (journal_bytes (step_in old event)) fault → new.numbered ≡ old.numbered → Stops old new event fault
Stops-from_LacksRoom old new event TooManyDocuments none same = absurd none
Stops-from_LacksRoom old new event (JournalFull used more) full same = (full, same)
Stops-from_LacksRoom old new event OutOfMemory starves same = starves
Stops-from_LacksRoom old new event WriteFault none same = absurd none
Stops-from_LacksRoom old new event Ended none same = absurd none

-- there was no room for the step's events, which come to so many bytes as they are counted
pub Halts-from_LacksRoom : (old new : Core) (event : Event) (counted : ℕ) (fault : CoreFault) → old.sheet.limit ≤ JOURNAL_MOST → counted ≡ capped (journal_bytes (step_in old event))
    → LacksRoom old.sheet new.sheet counted fault → Told old new → new.numbered ≡ old.numbered → Halts old new event fault
Halts-from_LacksRoom old new event counted fault small e lacks told same =
    (told, Stops-from_LacksRoom old new event fault (LacksRoom-counted old.sheet new.sheet counted (journal_bytes (step_in old event)) fault small e lacks) same)

-- there was room for them, but no memory for what they need besides
pub Halts-starved : (old new : Core) (event : Event) (places counted : ℕ) → old.sheet.limit ≤ JOURNAL_MOST → counted ≡ capped (journal_bytes (step_in old event)) → IsReady old.sheet new.sheet places counted
    → Told old new → Halts old new event OutOfMemory
Halts-starved old new event places counted small e ready told = (told, Starves-from_IsReady old.sheet new.sheet places counted (journal_bytes (step_in old event)) small e ready)

-- where entries are kept whole, each event but a failed start is a step alone
pub alone : (terms : Terms) (journal : List Event) (by : ℕ) (what : Happened) → terms.in_lists ≡ false → is_failed what ≡ false → step_of terms journal by what ≡ event by what ∷ []
alone terms journal by (Put path seq transcript) whole other = rw whole refl
alone terms journal by (Erased path seq) whole other = rw whole refl
alone terms journal by (BatchDone number outcomes) whole other = rw whole refl
alone terms journal by StartFailed whole other = absurd (cc)
alone terms journal by (Asked id request) whole other = refl
alone terms journal by (Noted notice) whole other = refl
alone terms journal by Started whole other = refl
alone terms journal by DaemonLost whole other = refl
alone terms journal by (Begun batch) whole other = refl
alone terms journal by (BatchDied number charged) whole other = refl
alone terms journal by (Returned number) whole other = refl
alone terms journal by Shadowed whole other = refl
alone terms journal by MasterBegun whole other = refl
alone terms journal by (MasterStep split) whole other = refl
alone terms journal by MasterEnded whole other = refl
alone terms journal by (Opened id) whole other = refl
alone terms journal by (Answered id at paths) whole other = refl
alone terms journal by (Said id reply) whole other = refl

pub Told-refl : (old : Core) → Told old old
Told-refl old = record { terms = refl; most = refl }

pub Keeps-refl : (known : Option (List ℕ)) → Keeps known known
Keeps-refl None = tt
Keeps-refl (Some bytes) = refl

pub Stays-refl : (sheet : Sheet) → Stays sheet sheet
Stays-refl sheet = record { events = refl; spare = omega arith; limit = refl; written = Keeps-refl sheet.written; faults = refl }

pub Rests-refl : (core : Core) → Rests core core
Rests-refl core = record { stays = Stays-refl core.sheet; told = Told-refl core; numbered = refl }

-- as many paths are numbered as may be, and the path is new
pub Halts-crowded : (old : Core) (by : ℕ) (path : List ℕ) (number : ℕ) (what : What) → is_numbered old.numbered path ≡ false → old.most ≤ length old.numbered → Halts old old (noted by path number what) TooManyDocuments
Halts-crowded old by path number what new_path many =
    let notice : Notice = record { path = path; seq = record { 0 = number }; what = what } in
    let crowded : IsCrowded old (noted by path number what) = record { notice = notice; notes = refl; new_path = new_path; many = many } in
    (Told-refl old, (crowded, Stays-refl old.sheet, refl))

-- a new path was not numbered for want of memory
pub Halts-unnumbered : (old new : Core) (event : Event) (places counted : ℕ) (fault : NumberFault) → (fault ≡ number.TooManyDocuments → ⊥) → old.sheet.limit ≤ JOURNAL_MOST → counted ≡ capped (journal_bytes (step_in old event))
    → IsReady old.sheet new.sheet places counted → Told old new → Halts old new event (fault_of_number fault)
Halts-unnumbered old new event places counted number.TooManyDocuments other small e ready told = absurd (other refl)
Halts-unnumbered old new event places counted number.OutOfMemory other small e ready told = Halts-starved old new event places counted small e ready told

-- why no batch was begun, as it is told
pub HaltsBeginning-of : (old new : Core) (by max : ℕ) (batch : Batch) (fault told_fault : CoreFault) (tried : Option Happened) → told_fault ≡ fault → tried ≡ tried_at fault (Begun batch)
    → IsNextBatch old.terms old.sheet.events max batch → Halts old new (event by (Begun batch)) fault → HaltsBeginning old new by max told_fault tried
HaltsBeginning-of old new by max batch fault told_fault tried e f next halts = rw (e, f) (inr (batch, next, refl, halts))
