-- What the end of a session says of its journal and its sink.
use Rattle.std.proofs.Common.{arith, ◌≡◌, ◌≢◌, ◌∙◌, ◌<◌, ◌≤◌, ◌+◌, ℕ, Bool, List, ◌++◌, length, ⊎_elim, false, true, refl, ap, sym, subst}
use Rattle.ci_io.specs.Reading.{Reading, ahead}
use Rattle.ci_journal.specs.declared.event.Event.{Event}
use Rattle.ci_journal.specs.Bytes.{capped, journal_bytes}
use Rattle.ci_journal.specs.Folds.{is_numbered, numbered_paths}
use Rattle.ci_journal.specs.Printed.{PrintsCut}
use Rattle.ci_journal.specs.Step.{May, step_of}
use Rattle.ci_journal.specs.Terms.{Terms}
use Rattle.ci_journal.proofs.FoldsLemmas.{numbered_paths-push}
use Rattle.ci_book.specs.declared.core_fault.CoreFault.{CoreFault}
use Rattle.ci_book.specs.declared.core_fault.CoreFault.TheVariants as refusal
use Rattle.ci_holdings.specs.Core.{Core}
use Rattle.ci_core.specs.Fixed.{Fixed, HasFixed, PrintsAfter, PrintsAll}
use Rattle.ci_holdings.specs.Steps.{step_in}
use Rattle.ci_server.specs.declared.status.Status.{Status}
use Rattle.ci_server.specs.declared.status.Status.TheVariants.{Done, Usage, ReadFault, WriteFault, JournalFull, TooManyDocuments, OutOfMemory, EndlessLine}
use Rattle.ci_server.specs.Progress.{Ends, FitsSession, Progress}
use Rattle.ci_server.specs.Session.{AsksFirst, ComesNext, EndsBetween, InTurns, IsCrowdedAt, IsFullAt, IsWhole, Told, step_told}
use Rattle.ci_worker.specs.Stops.{IsNext, StopsIn}
use Rattle.ci_server.proofs.ProgressLemmas.{FitsSession-whole}
use Rattle.ci_worker.proofs.StopLemmas.{Fits-stops, prints-reply}

-- no more paths are noted than were when the step was refused
same_numbered : (terms : Terms) (Fits : List Event → Type 0) (start core : Core) (fault : CoreFault) (stops : StopsIn Fits start core fault)
    → numbered_paths terms core.sheet.events ≡ numbered_paths terms stops.mid.sheet.events
same_numbered terms Fits start core refusal.TooManyDocuments stops = ap (numbered_paths terms) stops.halts.3
same_numbered terms Fits start core (refusal.JournalFull used more) stops = ap (numbered_paths terms) stops.halts.2.stays.events
same_numbered terms Fits start core refusal.OutOfMemory stops = ap (numbered_paths terms) stops.halts
same_numbered terms Fits start core refusal.WriteFault stops =
    ap (numbered_paths terms) stops.halts.3 ∙ numbered_paths-push terms stops.mid.sheet.events stops.halts.0 ∙ rw ((prints-reply stops.halts.0.what stops.halts.2).no_notice) refl
same_numbered terms Fits start core refusal.Ended stops = absurd stops.halts

-- what a session with this fixed part was told at its start
abbrev pub told_at_start : Fixed → Reading → Told
told_at_start fixed first = record { terms = fixed.terms; limit = fixed.limit; most = fixed.most; bytes = ahead first }

module _ (first : Reading) (start : Core) (now : Reading) (core : Core) (fixed : Fixed) (has : HasFixed fixed start) where
  -- ---- a session that ended between two turns
  module _ (at : Reading) (quit : Bool) (progress : Progress first start at core quit) where
    fits-whole : FitsSession start.terms (ahead first) core.sheet.events
    fits-whole = FitsSession-whole start.terms (ahead first) (ahead at) quit core.sheet.events progress.served progress.turns progress.of_lines progress.reads

    whole-whole : IsWhole start.terms core.sheet.events
    whole-whole = (progress.served, progress.turns)

    has-whole : HasFixed fixed core
    has-whole = progress.remains.fixed fixed has

    prints-whole : PrintsAll fixed core.sheet
    prints-whole = subst (PrintsAfter fixed core.sheet) progress.between.sound.unrefused has-whole.prints

    bounded-whole : length (numbered_paths fixed.terms core.sheet.events) ≤ fixed.most
    bounded-whole =
        let sound = progress.between.sound in
        let same : core.numbered ≡ numbered_paths fixed.terms core.sheet.events = sound.numbered ∙ ap (λ (t : Terms). numbered_paths t core.sheet.events) has-whole.terms in
        omega (arith, sound.room, ap length same, has-whole.most)

  -- ---- a session that ended in a turn
  module _ (fault : CoreFault) (stops : StopsIn (FitsSession start.terms (ahead first)) start core fault) where
    has-cut : HasFixed fixed core
    has-cut = stops.fixed fixed has

    most-cut : stops.mid.most ≡ fixed.most
    most-cut = stops.remains.told.most ∙ has.most

    terms-cut : stops.mid.terms ≡ fixed.terms
    terms-cut = stops.remains.told.terms ∙ has.terms

    -- the paths that were numbered when the step was refused
    paths-cut : stops.mid.numbered ≡ numbered_paths fixed.terms stops.mid.sheet.events
    paths-cut = stops.sound.numbered ∙ ap (λ (t : Terms). numbered_paths t stops.mid.sheet.events) terms-cut

    bounded-cut : length (numbered_paths fixed.terms core.sheet.events) ≤ fixed.most
    bounded-cut = omega (arith, stops.sound.room, ap length paths-cut, ap length (same_numbered fixed.terms (FitsSession start.terms (ahead first)) start core fault stops), most-cut)

  pub fits : (status : Status) → Ends first start now core status → FitsSession start.terms (ahead first) core.sheet.events
  fits Done ends = ⊎_elim (λ progress. fits-whole now true progress) (λ over. fits-whole over.before false over.progress) ends
  fits Usage ends = absurd ends
  fits ReadFault ends = fits-whole ends.0 false ends.1.progress
  fits EndlessLine ends = fits-whole ends.0 false ends.1.progress
  fits WriteFault ends = Fits-stops (FitsSession start.terms (ahead first)) start core refusal.WriteFault ends
  fits (JournalFull used more) ends = Fits-stops (FitsSession start.terms (ahead first)) start core (refusal.JournalFull used more) ends
  fits TooManyDocuments ends = Fits-stops (FitsSession start.terms (ahead first)) start core refusal.TooManyDocuments ends
  fits OutOfMemory ends = Fits-stops (FitsSession start.terms (ahead first)) start core refusal.OutOfMemory ends

  pub has_now : (status : Status) → Ends first start now core status → HasFixed fixed core
  has_now Done ends = ⊎_elim (λ progress. has-whole now true progress) (λ over. has-whole over.before false over.progress) ends
  has_now Usage ends = absurd ends
  has_now ReadFault ends = has-whole ends.0 false ends.1.progress
  has_now EndlessLine ends = has-whole ends.0 false ends.1.progress
  has_now WriteFault ends = has-cut refusal.WriteFault ends
  has_now (JournalFull used more) ends = has-cut (refusal.JournalFull used more) ends
  has_now TooManyDocuments ends = has-cut refusal.TooManyDocuments ends
  has_now OutOfMemory ends = has-cut refusal.OutOfMemory ends

  pub whole : (status : Status) → Ends first start now core status → EndsBetween status → IsWhole start.terms core.sheet.events
  whole Done ends between = ⊎_elim (λ progress. whole-whole now true progress) (λ over. whole-whole over.before false over.progress) ends
  whole ReadFault ends between = whole-whole ends.0 false ends.1.progress
  whole EndlessLine ends between = whole-whole ends.0 false ends.1.progress
  whole Usage ends between = absurd between
  whole WriteFault ends between = absurd between
  whole (JournalFull used more) ends between = absurd between
  whole TooManyDocuments ends between = absurd between
  whole OutOfMemory ends between = absurd between

  pub all_printed : (status : Status) → Ends first start now core status → status ≢ WriteFault → PrintsAll fixed core.sheet
  all_printed Done ends other = ⊎_elim (λ progress. prints-whole now true progress) (λ over. prints-whole over.before false over.progress) ends
  all_printed Usage ends other = absurd ends
  all_printed ReadFault ends other = prints-whole ends.0 false ends.1.progress
  all_printed EndlessLine ends other = prints-whole ends.0 false ends.1.progress
  all_printed WriteFault ends other = absurd (other refl)
  all_printed (JournalFull used more) ends other = ends.prints fixed has
  all_printed TooManyDocuments ends other = ends.prints fixed has
  all_printed OutOfMemory ends other = ends.prints fixed has

  pub bounded : (status : Status) → Ends first start now core status → length (numbered_paths fixed.terms core.sheet.events) ≤ fixed.most
  bounded Done ends = ⊎_elim (λ progress. bounded-whole now true progress) (λ over. bounded-whole over.before false over.progress) ends
  bounded Usage ends = absurd ends
  bounded ReadFault ends = bounded-whole ends.0 false ends.1.progress
  bounded EndlessLine ends = bounded-whole ends.0 false ends.1.progress
  bounded WriteFault ends = bounded-cut refusal.WriteFault ends
  bounded (JournalFull used more) ends = bounded-cut (refusal.JournalFull used more) ends
  bounded TooManyDocuments ends = bounded-cut refusal.TooManyDocuments ends
  bounded OutOfMemory ends = bounded-cut refusal.OutOfMemory ends

  -- after a fault of the sink bytes at the end lack
  pub cut_off : Ends first start now core WriteFault → PrintsCut fixed.written core.sheet.written core.sheet.events
  cut_off ends = (ends.prints fixed has).cut

  -- the events of the step that was refused, as they are told
  same_step : (fault : CoreFault) (stops : StopsIn (FitsSession start.terms (ahead first)) start core fault) (event : Event) → core.sheet.events ≡ stops.mid.sheet.events
      → step_in stops.mid event ≡ step_told (told_at_start fixed first) core.sheet.events event
  same_step fault stops event same =
      ap (λ (t : Terms). step_of t stops.mid.sheet.events event.by event.what) (terms-cut fault stops) ∙ ap (λ es. step_of fixed.terms es event.by event.what) (sym same)

  -- the step that was refused comes next behind the journal
  comes_next : (fault : CoreFault) (stops : StopsIn (FitsSession start.terms (ahead first)) start core fault) (event : Event) → IsNext (FitsSession start.terms (ahead first)) stops.mid event → core.sheet.events ≡ stops.mid.sheet.events
      → ComesNext (told_at_start fixed first) core.sheet.events event
  comes_next fault stops event next same = record {
    may = subst (λ es. May fixed.terms es event.by event.what) (sym same) (subst (λ (t : Terms). May t stops.mid.sheet.events event.by event.what) (terms-cut fault stops) next.may);
    in_turn = subst (λ es. InTurns fixed.terms (es ++ step_told (told_at_start fixed first) core.sheet.events event)) (sym same) (subst (λ es. InTurns fixed.terms (stops.mid.sheet.events ++ es)) (same_step fault stops event same)
        (subst (λ (t : Terms). InTurns t (stops.mid.sheet.events ++ step_in stops.mid event)) has.terms next.fits.turns));
    lines = subst (λ es. AsksFirst (ahead first) (es ++ step_told (told_at_start fixed first) core.sheet.events event)) (sym same)
        (subst (λ es. AsksFirst (ahead first) (stops.mid.sheet.events ++ es)) (same_step fault stops event same) next.fits.lines);
  }

  -- the paths that are numbered are those that the journal notes
  same_paths : (fault : CoreFault) (stops : StopsIn (FitsSession start.terms (ahead first)) start core fault) → core.sheet.events ≡ stops.mid.sheet.events → numbered_paths fixed.terms core.sheet.events ≡ stops.mid.numbered
  same_paths fault stops same = ap (numbered_paths fixed.terms) same ∙ sym (paths-cut fault stops)

  -- a full journal: the next event of the turn is above the bound
  pub journal_full : (used more : ℕ) → Ends first start now core (JournalFull used more) → IsFullAt (told_at_start fixed first) core.sheet.events used more
  journal_full used more ends =
      let fault = refusal.JournalFull used more in
      let event = ends.halts.0 in
      let full = ends.halts.2 in
      let same : core.sheet.events ≡ ends.mid.sheet.events = full.stays.events in
      let paths = same_paths fault ends same in
      record {
        event = event;
        next = comes_next fault ends event ends.halts.1 same;
        counted = full.counted ∙ ap journal_bytes (sym same);
        wanted = full.wanted ∙ ap (λ es. capped (journal_bytes es)) (same_step fault ends event same);
        over = subst (λ n. n < used + more) (ends.remains.limit ∙ has.limit) full.over;
        room = λ many. ends.halts.3 (record {
          notice = many.notice;
          notes = many.notes;
          new_path = subst (λ ps. is_numbered ps many.notice.path ≡ false) paths many.new_path;
          many = omega (arith, many.many, ap length paths, most-cut fault ends);
        });
      }

  -- too many documents: the next event of the turn notes one more
  pub crowded : Ends first start now core TooManyDocuments → IsCrowdedAt (told_at_start fixed first) core.sheet.events
  crowded ends =
      let fault = refusal.TooManyDocuments in
      let event = ends.halts.0 in
      let crowd = ends.halts.2 in
      let same : core.sheet.events ≡ ends.mid.sheet.events = ends.halts.3 in
      let paths = same_paths fault ends same in
      record {
        event = event;
        next = comes_next fault ends event ends.halts.1 same;
        many = record {
          notice = crowd.notice;
          notes = crowd.notes;
          new_path = subst (λ ps. is_numbered ps crowd.notice.path ≡ false) (sym paths) crowd.new_path;
          many = omega (arith, crowd.many, ap length paths, most-cut fault ends);
        };
      }
