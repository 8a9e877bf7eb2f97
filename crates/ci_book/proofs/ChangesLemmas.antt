-- What a refusal to make room says of the step that wanted it, and what a step that made room adds.
use Rattle.std.proofs.Common.{arith, ◌≡◌, ◌∙◌, ◌+◌, ◌≤◌, ℕ, List, [], ◌∷◌, ◌++◌, Option, Some, None, ap, sym, subst, append-nil}
use Rattle.std.proofs.lemmas.List.Sums.{sum_by-cons}
use Rattle.std.specs.Io.KnownBytes.{Appends, Keeps}
use Rattle.ci_journal.specs.declared.event.Event.{Event}
use Rattle.ci_journal.specs.Bytes.{capped, event_bytes, journal_bytes}
use Rattle.ci_journal.specs.Printed.{lines_of, printed}
use Rattle.ci_journal.proofs.FoldsLemmas.{journal_bytes-push}
use Rattle.ci_book.specs.declared.core_fault.CoreFault.{CoreFault}
use Rattle.ci_book.specs.declared.core_fault.CoreFault.TheVariants.{TooManyDocuments, JournalFull, OutOfMemory, WriteFault, Ended}
use Rattle.ci_book.specs.declared.settings.TheConstants.{JOURNAL_MOST}
use Rattle.ci_book.specs.Sheet.{Sheet}
use Rattle.ci_book.specs.Changes.{Adds, Enters, Stays, Starves, IsReady, LacksRoom, Writes}

-- so many bytes are as they are counted, where they are within a bound
pub LacksRoom-counted : (old new : Sheet) (counted bytes : ℕ) (fault : CoreFault) → old.limit ≤ JOURNAL_MOST → counted ≡ capped bytes → LacksRoom old new counted fault → LacksRoom old new bytes fault
LacksRoom-counted old new counted bytes TooManyDocuments small e none = absurd none
LacksRoom-counted old new counted bytes (JournalFull used more) small e full =
    record { stays = full.stays; counted = full.counted; wanted = omega (arith, full.wanted); over = full.over }
LacksRoom-counted old new counted bytes OutOfMemory small e starves =
    record { stays = starves.stays; fits = omega (arith, starves.fits) }
LacksRoom-counted old new counted bytes WriteFault small e none = absurd none
LacksRoom-counted old new counted bytes Ended small e none = absurd none

-- room was made for more bytes than there was memory for besides
pub Starves-from_IsReady : (old new : Sheet) (places counted bytes : ℕ) → old.limit ≤ JOURNAL_MOST → counted ≡ capped bytes → IsReady old new places counted → Starves old new bytes
Starves-from_IsReady old new places counted bytes small e ready = record { stays = ready.stays; fits = omega (arith, ready.fits, small, e) }

Appends-after_Keeps : (old ready new : Option (List ℕ)) (bytes : List ℕ) → Keeps old ready → Appends ready new bytes → Appends old new bytes
Appends-after_Keeps None ready new bytes keeps appends = tt
Appends-after_Keeps (Some xs) None new bytes keeps appends = absurd keeps
Appends-after_Keeps (Some xs) (Some ys) None bytes keeps appends = absurd appends
Appends-after_Keeps (Some xs) (Some ys) (Some zs) bytes keeps appends = appends ∙ ap (λ b. b ++ bytes) keeps

-- a step that made room, and then added its events
pub Adds-prepared : (old ready new : Sheet) (events : List Event) → Stays old ready → Adds ready new events → Adds old new events
Adds-prepared old ready new events stays adds = record {
  events = adds.events ∙ ap (λ es. es ++ events) stays.events;
  limit = adds.limit ∙ stays.limit;
  written = Appends-after_Keeps old.written ready.written new.written (printed events) stays.written adds.written;
  faults = adds.faults ∙ stays.faults;
}

-- one event counts what it counts
pub journal_bytes-one : (e : Event) → journal_bytes (e ∷ []) ≡ event_bytes e.what
journal_bytes-one e = omega (arith, sum_by-cons (λ (x : Event). event_bytes x.what) e [])

-- and it prints what it prints
pub printed-one : (e : Event) → printed (e ∷ []) ≡ lines_of e.what
printed-one e = append-nil (lines_of e.what)

-- an event for which there was room is within the bound
pub fits-one : (old ready new : Sheet) (places counted : ℕ) (e : Event) → old.limit ≤ JOURNAL_MOST → counted ≡ capped (event_bytes e.what) → IsReady old ready places counted → Adds ready new (e ∷ []) → journal_bytes new.events ≤ new.limit
fits-one old ready new places counted e small counts fits adds =
    let now : journal_bytes new.events ≡ journal_bytes old.events + event_bytes e.what =
    ap journal_bytes (adds.events ∙ ap (λ es. es ++ e ∷ []) fits.stays.events) ∙ journal_bytes-push old.events e in
    omega (arith, now, fits.fits, counts, small, adds.limit, fits.stays.limit)

-- an event that was entered, and whose lines were then written
pub Adds-written : (old new after : Sheet) (places : ℕ) (e : Event) (lines : List ℕ) → Enters old new places e → lines ≡ lines_of e.what → Writes new after lines → Adds old after (e ∷ [])
Adds-written old new after places e lines enters are writes = record {
  events = writes.events ∙ enters.events;
  limit = writes.limit ∙ enters.limit;
  written = Appends-after_Keeps old.written new.written after.written (printed (e ∷ [])) enters.written
      (subst (Appends new.written after.written) (are ∙ sym (printed-one e)) writes.written);
  faults = writes.faults ∙ enters.faults;
}
