-- A batch that ends, before or behind a refusal: what the catalogue keeps of its refusals and of its fixed part stays.
use Rattle.std.proofs.Common.{◌≡◌, ◌∙◌, ℕ, List, [], ◌∷◌, ◌++◌, length, drop, take, take-append-drop, fold, map, IfSome, IsTrue, Option, Some, None, option_to_list, refl, ap, sym, subst, append-nil, append_assoc}
use Rattle.std.specs.Io.KnownBytes.{Appends}
use Rattle.std.proofs.lemmas.List.{length-take-le}
use Rattle.std.proofs.lemmas.List.Elements.{All-push}
use Rattle.ci_io.specs.Causes.{Rose}
use Rattle.ci_change.specs.declared.notice.Notice.{Notice}
use Rattle.ci_journal.specs.declared.event.Event.{Event}
use Rattle.ci_journal.specs.declared.event.Happened.{Happened}
use Rattle.ci_journal.specs.declared.event.Happened.TheVariants.{Asked, Noted, Put, Erased, Started, StartFailed, DaemonLost, Begun, BatchDone, BatchDied, Returned, Shadowed, MasterBegun, MasterStep, MasterEnded, Opened, Answered, Said}
use Rattle.ci_journal.specs.Folds.{numbered_paths, with_path}
use Rattle.ci_journal.specs.Printed.{AreEnds, ends_batch, lines_of, printed}
use Rattle.ci_journal.specs.Tells.{tells}
use Rattle.ci_journal.proofs.FoldsLemmas.{new_notices-push}
use Rattle.ci_book.specs.declared.core_fault.CoreFault.{CoreFault}
use Rattle.ci_book.specs.declared.core_fault.CoreFault.TheVariants.{TooManyDocuments, JournalFull, OutOfMemory, WriteFault, Ended}
use Rattle.ci_book.specs.declared.refusal.Refusal.{Refusal}
use Rattle.ci_core.specs.Catalog.{CausedBy, IsCatalog, IsCaused, NumbersAfter, NumbersNoted, NumbersUnless}
use Rattle.ci_holdings.specs.Core.{Core}
use Rattle.ci_core.specs.Fixed.{BreaksOff, Fixed, KeepsFixed, PrintsAfter, PrintsAll, PrintsAt}
use Rattle.ci_holdings.specs.Steps.{Ends}
use Rattle.ci_core.proofs.CatalogLemmas.{caused-at, numbered-now, printed-more, prints-adds}

-- the end of a batch notes nothing and prints nothing
end-unnoted : (what : Happened) → IsTrue (ends_batch what) → (tells what).notice ≡ None
end-unnoted (BatchDied number charged) is = refl
end-unnoted (Returned number) is = refl
end-unnoted (Asked id request) is = absurd (cc)
end-unnoted (Noted notice) is = absurd (cc)
end-unnoted (Put path seq transcript) is = absurd (cc)
end-unnoted (Erased path seq) is = absurd (cc)
end-unnoted Started is = absurd (cc)
end-unnoted StartFailed is = absurd (cc)
end-unnoted DaemonLost is = absurd (cc)
end-unnoted (Begun batch) is = absurd (cc)
end-unnoted (BatchDone number outcomes) is = absurd (cc)
end-unnoted Shadowed is = absurd (cc)
end-unnoted MasterBegun is = absurd (cc)
end-unnoted (MasterStep split) is = absurd (cc)
end-unnoted MasterEnded is = absurd (cc)
end-unnoted (Opened id) is = absurd (cc)
end-unnoted (Answered id at paths) is = absurd (cc)
end-unnoted (Said id reply) is = absurd (cc)

end-silent : (what : Happened) → IsTrue (ends_batch what) → lines_of what ++ [] ≡ []
end-silent (BatchDied number charged) is = refl
end-silent (Returned number) is = refl
end-silent (Asked id request) is = absurd (cc)
end-silent (Noted notice) is = absurd (cc)
end-silent (Put path seq transcript) is = absurd (cc)
end-silent (Erased path seq) is = absurd (cc)
end-silent Started is = absurd (cc)
end-silent StartFailed is = absurd (cc)
end-silent DaemonLost is = absurd (cc)
end-silent (Begun batch) is = absurd (cc)
end-silent (BatchDone number outcomes) is = absurd (cc)
end-silent Shadowed is = absurd (cc)
end-silent MasterBegun is = absurd (cc)
end-silent (MasterStep split) is = absurd (cc)
end-silent MasterEnded is = absurd (cc)
end-silent (Opened id) is = absurd (cc)
end-silent (Answered id at paths) is = absurd (cc)
end-silent (Said id reply) is = absurd (cc)

module _ (old new : Core) (event : Event) (ends : Ends old new event) (is_end : IsTrue (ends_batch event.what)) where
  numbers-ends : numbered_paths new.terms new.sheet.events ≡ numbered_paths old.terms old.sheet.events
  numbers-ends =
      numbered-now old new (event ∷ []) ends.told.terms ends.adds.events
      ∙ ap (λ (ns : List Notice). fold with_path (numbered_paths old.terms old.sheet.events) (map (λ (n : Notice). n.path) ns)) (new_notices-push [] event ∙ ap option_to_list (end-unnoted event.what is_end))

  noted-ends : NumbersNoted old → NumbersNoted new
  noted-ends noted = ends.numbered ∙ noted ∙ sym numbers-ends

  unless-ends : (fault : CoreFault) → NumbersUnless old fault → NumbersUnless new fault
  unless-ends TooManyDocuments noted = noted-ends noted
  unless-ends (JournalFull used more) noted = noted-ends noted
  unless-ends OutOfMemory noted = tt
  unless-ends WriteFault noted = noted-ends noted
  unless-ends Ended noted = noted-ends noted

  one-more : (ends : List Event) → AreEnds ends → AreEnds (ends ++ event ∷ [])
  one-more front each = All-push (λ (e : Event). IsTrue (ends_batch e.what)) front event each is_end

  -- the cause still holds, with one end more behind
  cause-ends : (before behind : List Event) (by : ℕ) (fault : CoreFault) (tried : Option Happened) → CausedBy old before behind by fault tried → CausedBy new before (behind ++ event ∷ []) by fault tried
  cause-ends before behind by TooManyDocuments None cause = absurd cause
  cause-ends before behind by TooManyDocuments (Some what) cause = (
    record {
      may = rw ends.told.terms cause.0.may;
      notice = cause.0.notice;
      notes = cause.0.notes;
      new_path = rw ends.numbered cause.0.new_path;
      many = rw (ends.told.most, ends.numbered) cause.0.many;
    },
    one-more behind cause.1,
  )
  cause-ends before behind by (JournalFull used more) None cause = absurd cause
  cause-ends before behind by (JournalFull used more) (Some what) cause = (
    record {
      may = rw ends.told.terms cause.0.may;
      counted = cause.0.counted;
      wanted = rw ends.told.terms cause.0.wanted;
      over = rw ends.adds.limit cause.0.over;
    },
    one-more behind cause.1,
  )
  cause-ends before behind by OutOfMemory None cause = one-more behind cause
  cause-ends before behind by OutOfMemory (Some what) cause = absurd cause
  cause-ends before behind by WriteFault None cause = absurd cause
  cause-ends before behind by WriteFault (Some what) cause = record {
    may = rw ends.told.terms cause.may;
    ends = cause.ends ++ event ∷ [];
    events = ap (λ es. es ++ event ∷ []) cause.events;
    each = one-more cause.ends cause.each;
  }
  cause-ends before behind by Ended tried cause = absurd cause

  caused-ends : (refusal : Refusal) → IsCaused old refusal → IsCaused new refusal
  caused-ends refusal caused =
      let at = refusal.at in
      let before = take at old.sheet.events in
      let behind = drop at old.sheet.events in
      let whole : old.sheet.events ≡ before ++ behind = sym (take-append-drop at old.sheet.events) in
      let count : length before ≡ at = length-take-le at old.sheet.events caused.place in
      caused-at new before (behind ++ event ∷ []) refusal.by at refusal.fault refusal.tried
      (ends.adds.events ∙ ap (λ es. es ++ event ∷ []) whole ∙ append_assoc before behind (event ∷ [])) (sym count)
      (cause-ends before behind refusal.by refusal.fault refusal.tried caused.cause)

  pub IsCatalog-ends : IsCatalog old → IsCatalog new
  IsCatalog-ends catalog = by old.refusal refl catalog.numbered catalog.cause
    where
      by : (refusal : Option Refusal) → old.refusal ≡ refusal → NumbersAfter old refusal → IfSome refusal (IsCaused old) → IsCatalog new
      by None e numbered cause = record {
        numbered = subst (NumbersAfter new) (sym (ends.refusal ∙ e)) (noted-ends numbered);
        cause = subst (λ (r : Option Refusal). IfSome r (IsCaused new)) (sym (ends.refusal ∙ e)) tt;
      }
      by (Some refusal) e numbered cause = record {
        numbered = subst (NumbersAfter new) (sym (ends.refusal ∙ e)) (unless-ends refusal.fault numbered);
        cause = subst (λ (r : Option Refusal). IfSome r (IsCaused new)) (sym (ends.refusal ∙ e)) (caused-ends refusal cause);
      }

  -- ---- what is printed

  printed-ends : (fixed : Fixed) → PrintsAll fixed old.sheet → PrintsAll fixed new.sheet
  printed-ends fixed prints = prints-adds fixed old.sheet new.sheet (event ∷ []) prints ends.adds

  cut-ends : (fixed : Fixed) → BreaksOff fixed old.sheet → BreaksOff fixed new.sheet
  cut-ends fixed breaks =
      let cut = breaks.cut in
      let nothing : printed (event ∷ []) ≡ [] = end-silent event.what is_end in
      record {
        cut = record {
          front = cut.front;
          last = cut.last;
          ends = cut.ends ++ event ∷ [];
          events = ends.adds.events ∙ ap (λ es. es ++ event ∷ []) cut.events ∙ append_assoc cut.front (cut.last ∷ cut.ends) (event ∷ []);
          each = one-more cut.ends cut.each;
          count = cut.count;
          short = cut.short;
          written = subst (Appends fixed.written new.sheet.written) (append-nil _)
              (printed-more fixed.written old.sheet.written new.sheet.written _ [] cut.written (subst (Appends old.sheet.written new.sheet.written) nothing ends.adds.written));
        };
        rose = subst (Rose fixed.faults) (sym ends.adds.faults) breaks.rose;
      }

  prints-ends : (fixed : Fixed) (fault : CoreFault) → PrintsAt fixed old.sheet fault → PrintsAt fixed new.sheet fault
  prints-ends fixed TooManyDocuments prints = printed-ends fixed prints
  prints-ends fixed (JournalFull used more) prints = printed-ends fixed prints
  prints-ends fixed OutOfMemory prints = printed-ends fixed prints
  prints-ends fixed WriteFault prints = cut-ends fixed prints
  prints-ends fixed Ended prints = printed-ends fixed prints

  pub KeepsFixed-ends : KeepsFixed old new
  KeepsFixed-ends fixed has = record {
    limit = ends.adds.limit ∙ has.limit;
    most = ends.told.most ∙ has.most;
    terms = ends.told.terms ∙ has.terms;
    prints = subst (PrintsAfter fixed new.sheet) (sym ends.refusal) (by old.refusal has.prints);
  }
    where
      by : (refusal : Option Refusal) → PrintsAfter fixed old.sheet refusal → PrintsAfter fixed new.sheet refusal
      by None prints = printed-ends fixed prints
      by (Some refusal) prints = prints-ends fixed refusal.fault prints
