-- What the catalogue keeps of a step, whose refusal is kept.
use Rattle.std.proofs.Common.{arith, ◌≡◌, ◌∙◌, ⊎_elim, inl, inr, ℕ, ◌<◌, List, [], ◌∷◌, ◌++◌, length, drop, take, fold, map, Option, Some, None, Result, Ok, Err, OnOk, IfOk, IfErr, option_to_list, refl, ap, sym, subst, append-nil, length-append, append_assoc}
use Rattle.std.specs.Io.KnownBytes.{Appends, Keeps}
use Rattle.std.proofs.lemmas.Grind.{flat_map-append}
use Rattle.std.proofs.lemmas.List.{map-append, take-append-le, take_all}
use Rattle.std.proofs.lemmas.List.Sums.{fold-append}
use Rattle.ci_io.specs.Causes.{Rose}
use Rattle.ci_base.specs.declared.numbers.Seq.{Seq}
use Rattle.ci_change.specs.declared.notice.Notice.{Notice}
use Rattle.ci_journal.specs.declared.event.Event.{Event}
use Rattle.ci_journal.specs.declared.event.Happened.{Happened}
use Rattle.ci_journal.specs.declared.event.Happened.TheVariants.{Asked, Noted, Put, Erased, Started, StartFailed, DaemonLost, Begun, BatchDone, BatchDied, Returned, Shadowed, MasterBegun, MasterStep, MasterEnded, Opened, Answered, Said}
use Rattle.ci_journal.specs.Printed.{AreEnds, lines_of, printed}
use Rattle.ci_dialect.specs.declared.restriction.Restriction.{Restriction}
use Rattle.ci_journal.specs.Folds.{new_notices, notices, numbered_paths, with_path}
use Rattle.ci_journal.specs.Queries.{IsFirstWaiting}
use Rattle.ci_journal.specs.Step.{May}
use Rattle.ci_journal.specs.Tells.{Tells, event, tells}
use Rattle.ci_journal.specs.Terms.{Terms}
use Rattle.ci_journal.proofs.FoldsLemmas.{new_notices-push}
use Rattle.ci_journal.proofs.TellsLemmas.{tellings-append}
use Rattle.ci_book.specs.declared.core_fault.CoreFault.{CoreFault}
use Rattle.ci_book.specs.declared.core_fault.CoreFault.TheVariants.{TooManyDocuments, JournalFull, OutOfMemory, WriteFault, Ended}
use Rattle.ci_book.specs.declared.refusal.Refusal.{Refusal}
use Rattle.ci_core.specs.Catalog.{CausedBy, IsCatalog, IsCaused, NumbersAfter, NumbersNoted, NumbersUnless}
use Rattle.ci_holdings.specs.declared.question.Question.{Question}
use Rattle.ci_book.specs.Changes.{Adds, Breaks, Stays}
use Rattle.ci_holdings.specs.Core.{Core}
use Rattle.ci_core.specs.Fixed.{BreaksOff, Fixed, HasFixed, KeepsFixed, PrintsAfter, PrintsAll, PrintsAt}
use Rattle.ci_book.specs.Refusal.{tried_at}
use Rattle.ci_holdings.specs.Refusals.{Halts, IsCrowded, Refuses}
use Rattle.ci_book.specs.Sheet.{Sheet}
use Rattle.ci_holdings.specs.Opening.{OpensFirst, RefusesOpening}
use Rattle.ci_holdings.specs.Steps.{Makes, Told, numbered_behind, step_in}
use Rattle.ci_holdings.proofs.QueueLemmas.{same_first}

-- a step that adds an event was made or refused, and a refusal is kept
pub record IsMade {T : Type 0} (before made : Core) (earlier : Option Refusal) (event : Event) (result : Result T CoreFault) (refusal : Option Refusal) : Type 0 where
  pub unrefused : earlier ≡ None
  pub may : May before.terms before.sheet.events event.by event.what
  pub ok : OnOk result (Makes before made event)
  pub err : IfErr result (Halts before made event)
  pub kept : OnOk result (refusal ≡ earlier)
  pub told : IfErr result (λ fault. refusal ≡ Some (record { by = event.by; at = length before.sheet.events; fault = fault; tried = tried_at fault event.what }))

-- a refusal that is kept at a place, of what was tried
pub told-as : {T : Type 0} (result : Result T CoreFault) (refusal : Option Refusal) (by at there : ℕ) (tried what : Happened) → at ≡ there → tried ≡ what
    → IfErr result (λ fault. refusal ≡ Some (record { by = by; at = at; fault = fault; tried = tried_at fault tried }))
    → IfErr result (λ fault. refusal ≡ Some (record { by = by; at = there; fault = fault; tried = tried_at fault what }))
told-as result refusal by at there tried what place same told =
    subst (λ (n : ℕ). IfErr result (λ fault. refusal ≡ Some (record { by = by; at = n; fault = fault; tried = tried_at fault what }))) place
    (subst (λ (w : Happened). IfErr result (λ fault. refusal ≡ Some (record { by = by; at = at; fault = fault; tried = tried_at fault w }))) same told)

-- the paths that are numbered behind a longer journal
pub numbered_paths-append : (terms : Terms) (journal more : List Event) → numbered_paths terms (journal ++ more) ≡ numbered_behind (numbered_paths terms journal) more
numbered_paths-append terms journal more =
    let before = map (λ (s : List ℕ × Seq). s.0) terms.beginning.numbers in
    let paths = map (λ (n : Notice). n.path) in
    let all : notices terms (journal ++ more) ≡ notices terms journal ++ new_notices more =
    ap (λ ns. terms.beginning.notices ++ ns) (tellings-append (λ (t : Tells). t.notice) journal more) ∙ sym (append_assoc terms.beginning.notices (new_notices journal) (new_notices more)) in
    ap (λ ns. fold with_path [] (before ++ paths ns)) all
    ∙ ap (λ ps. fold with_path [] (before ++ ps)) (map-append (λ (n : Notice). n.path) (notices terms journal) (new_notices more))
    ∙ ap (fold with_path []) (sym (append_assoc before (paths (notices terms journal)) (paths (new_notices more))))
    ∙ fold-append with_path [] (before ++ paths (notices terms journal)) (paths (new_notices more))

-- ---- the paths that are numbered

-- the paths that are numbered, with those that some events note
pub numbered-now : (old made : Core) (events : List Event) → made.terms ≡ old.terms → made.sheet.events ≡ old.sheet.events ++ events
    → numbered_paths made.terms made.sheet.events ≡ numbered_behind (numbered_paths old.terms old.sheet.events) events
numbered-now old made events told now =
    ap (λ (t : Terms). numbered_paths t made.sheet.events) told ∙ ap (numbered_paths old.terms) now ∙ numbered_paths-append old.terms old.sheet.events events

numbered-same : (old made : Core) → made.terms ≡ old.terms → made.sheet.events ≡ old.sheet.events → numbered_paths made.terms made.sheet.events ≡ numbered_paths old.terms old.sheet.events
numbered-same old made told events = ap (λ (t : Terms). numbered_paths t made.sheet.events) told ∙ ap (numbered_paths old.terms) events

pub noted-now : (core : Core) → NumbersAfter core core.refusal → core.refusal ≡ None → NumbersNoted core
noted-now core numbers none = subst (NumbersAfter core) none numbers

-- ---- the cause of a refusal

-- the journal as the step found it, and what stands behind
front-is : (xs ys : List Event) → take (length xs) (xs ++ ys) ≡ xs
front-is xs ys = take-append-le (length xs) xs ys (omega arith) ∙ take_all (length xs) xs (omega arith)

rest-is : (xs ys : List Event) → drop (length xs) (xs ++ ys) ≡ ys
rest-is [] ys = refl
rest-is (x ∷ xs) ys = rest-is xs ys

pub no_ends : AreEnds []
no_ends k d within = absurd (omega (arith, within))

-- the cause speaks of the journal as the step found it, and of what stands behind
pub caused-at : (core : Core) (before behind : List Event) (by at : ℕ) (fault : CoreFault) (tried : Option Happened) → core.sheet.events ≡ before ++ behind → at ≡ length before → CausedBy core before behind by fault tried
    → IsCaused core (record { by = by; at = at; fault = fault; tried = tried })
caused-at core before behind by at fault tried events place cause =
    let before_is : take at core.sheet.events ≡ before = ap (take at) events ∙ ap (λ n. take n (before ++ behind)) place ∙ front-is before behind in
    let behind_is : drop at core.sheet.events ≡ behind = ap (drop at) events ∙ ap (λ n. drop n (before ++ behind)) place ∙ rest-is before behind in
    record {
      place = omega (arith, place, ap length events, length-append before behind);
      cause = subst (λ (bs : List Event). CausedBy core bs (drop at core.sheet.events) by fault tried) (sym before_is)
          (subst (λ (es : List Event). CausedBy core before es by fault tried) (sym behind_is) cause);
    }

-- where the events stayed
module _ (old made : Core) (event : Event) (fault : CoreFault) (refusal : Option Refusal) where
  stayed : made.sheet.events ≡ old.sheet.events → CausedBy (record made { refusal = refusal }) old.sheet.events [] event.by fault (tried_at fault event.what)
      → IsCaused (record made { refusal = refusal }) (record { by = event.by; at = length old.sheet.events; fault = fault; tried = tried_at fault event.what })
  stayed events cause = caused-at (record made { refusal = refusal }) old.sheet.events [] event.by (length old.sheet.events) fault (tried_at fault event.what) (events ∙ sym (append-nil old.sheet.events)) refl cause

caused : (old made : Core) (event : Event) (fault : CoreFault) (refusal : Option Refusal) → May old.terms old.sheet.events event.by event.what → Halts old made event fault
    → IsCaused (record made { refusal = refusal }) (record { by = event.by; at = length old.sheet.events; fault = fault; tried = tried_at fault event.what })
caused old made event TooManyDocuments refusal may halts = stayed old made event TooManyDocuments refusal halts.1.1.events (
  record {
    may = rw halts.0.terms may;
    notice = halts.1.0.notice;
    notes = halts.1.0.notes;
    new_path = rw halts.1.2 halts.1.0.new_path;
    many = rw (halts.0.most, halts.1.2) halts.1.0.many;
  },
  no_ends,
)
caused old made event (JournalFull used more) refusal may halts = stayed old made event (JournalFull used more) refusal halts.1.0.stays.events (
  record {
    may = rw halts.0.terms may;
    counted = halts.1.0.counted;
    wanted = rw halts.0.terms halts.1.0.wanted;
    over = rw halts.1.0.stays.limit halts.1.0.over;
  },
  no_ends,
)
caused old made event OutOfMemory refusal may halts = stayed old made event OutOfMemory refusal halts.1.stays.events no_ends
caused old made event WriteFault refusal may halts =
    caused-at (record made { refusal = refusal }) old.sheet.events (event ∷ []) event.by (length old.sheet.events) WriteFault (Some event.what) halts.1.0.events refl (record {
      may = rw halts.0.terms may;
      ends = [];
      events = refl;
      each = no_ends;
    })
caused old made event Ended refusal may halts = absurd halts.1

-- no step changes the bound
limit-refused : (old made : Core) (event : Event) (fault : CoreFault) → Halts old made event fault → made.sheet.limit ≡ old.sheet.limit
limit-refused old made event TooManyDocuments halts = halts.1.1.limit
limit-refused old made event (JournalFull used more) halts = halts.1.0.stays.limit
limit-refused old made event OutOfMemory halts = halts.1.stays.limit
limit-refused old made event WriteFault halts = halts.1.0.limit
limit-refused old made event Ended halts = absurd halts.1

-- what prints notes nothing
prints-unnoted : (what : Happened) → 0 < length (lines_of what) → (tells what).notice ≡ None
prints-unnoted (Asked id request) some = refl
prints-unnoted (Noted notice) some = absurd (omega (arith, some))
prints-unnoted (Put path seq transcript) some = refl
prints-unnoted (Erased path seq) some = refl
prints-unnoted Started some = refl
prints-unnoted StartFailed some = refl
prints-unnoted DaemonLost some = refl
prints-unnoted (Begun batch) some = refl
prints-unnoted (BatchDone number outcomes) some = refl
prints-unnoted (BatchDied number charged) some = refl
prints-unnoted (Returned number) some = refl
prints-unnoted Shadowed some = refl
prints-unnoted MasterBegun some = refl
prints-unnoted (MasterStep split) some = refl
prints-unnoted MasterEnded some = refl
prints-unnoted (Opened id) some = refl
prints-unnoted (Answered id at paths) some = refl
prints-unnoted (Said id reply) some = refl

numbers-refused : (old made : Core) (event : Event) (fault : CoreFault) (refusal : Option Refusal) → NumbersNoted old → Halts old made event fault → NumbersUnless (record made { refusal = refusal }) fault
numbers-refused old made event TooManyDocuments refusal noted halts = halts.1.2 ∙ noted ∙ sym (numbered-same old made halts.0.terms halts.1.1.events)
numbers-refused old made event (JournalFull used more) refusal noted halts = halts.1.1 ∙ noted ∙ sym (numbered-same old made halts.0.terms halts.1.0.stays.events)
numbers-refused old made event OutOfMemory refusal noted halts = tt
numbers-refused old made event WriteFault refusal noted halts =
    let cut = halts.1.0.written in
    let unnoted = prints-unnoted event.what (omega (arith, cut.1)) in
    halts.1.1 ∙ noted ∙ sym (numbered-now old made (event ∷ []) halts.0.terms halts.1.0.events
    ∙ ap (λ (ns : List Notice). fold with_path (numbered_paths old.terms old.sheet.events) (map (λ (n : Notice). n.path) ns)) (new_notices-push [] event ∙ ap option_to_list unnoted))
numbers-refused old made event Ended refusal noted halts = absurd halts.1

-- refusals that are kept change nothing of what the step left
module _ (old made : Core) (earlier refusal : Option Refusal) (event : Event) where
  abbrev held : Core
  held = record old { refusal = earlier }

  abbrev after : Core
  after = record made { refusal = refusal }

  told-kept : Told old made → Told held after
  told-kept told = record { terms = told.terms; most = told.most }

  crowded-kept : IsCrowded old event → IsCrowded held event
  crowded-kept crowded = record { notice = crowded.notice; notes = crowded.notes; new_path = crowded.new_path; many = crowded.many }

  Halts-kept : (fault : CoreFault) → Halts old made event fault → Halts held after event fault
  Halts-kept TooManyDocuments halts = (told-kept halts.0, (crowded-kept halts.1.0, halts.1.1, halts.1.2))
  Halts-kept (JournalFull used more) halts = (told-kept halts.0, halts.1)
  Halts-kept OutOfMemory halts = (told-kept halts.0, halts.1)
  Halts-kept WriteFault halts = (told-kept halts.0, halts.1)
  Halts-kept Ended halts = absurd halts.1

-- ---- what is printed

printed-keeps : (first before now : Option (List ℕ)) (bytes : List ℕ) → Appends first before bytes → Keeps before now → Appends first now bytes
printed-keeps None before now bytes appends keeps = tt
printed-keeps (Some xs) None now bytes appends keeps = absurd appends
printed-keeps (Some xs) (Some ys) None bytes appends keeps = absurd keeps
printed-keeps (Some xs) (Some ys) (Some zs) bytes appends keeps = keeps ∙ appends

pub printed-more : (first before now : Option (List ℕ)) (bytes more : List ℕ) → Appends first before bytes → Appends before now more → Appends first now (bytes ++ more)
printed-more None before now bytes more appends then = tt
printed-more (Some xs) None now bytes more appends then = absurd appends
printed-more (Some xs) (Some ys) None bytes more appends then = absurd then
printed-more (Some xs) (Some ys) (Some zs) bytes more appends then = then ∙ ap (λ b. b ++ more) appends ∙ append_assoc xs bytes more

pub prints-stays : (fixed : Fixed) (old new : Sheet) → PrintsAll fixed old → Stays old new → PrintsAll fixed new
prints-stays fixed old new prints stays = record {
  written = rw stays.events (printed-keeps fixed.written old.written new.written (printed old.events) prints.written stays.written);
  faults = stays.faults ∙ prints.faults;
}

pub prints-adds : (fixed : Fixed) (old new : Sheet) (events : List Event) → PrintsAll fixed old → Adds old new events → PrintsAll fixed new
prints-adds fixed old new events prints adds = record {
  written = rw (adds.events, flat_map-append (λ (e : Event). lines_of e.what) old.events events) (printed-more fixed.written old.written new.written (printed old.events) (printed events) prints.written adds.written);
  faults = adds.faults ∙ prints.faults;
}

prints-breaks : (fixed : Fixed) (old new : Sheet) (event : Event) → PrintsAll fixed old → Breaks old new event → BreaksOff fixed new
prints-breaks fixed old new event prints breaks = record {
  cut = record {
    front = old.events;
    last = event;
    ends = [];
    events = breaks.events;
    each = λ k d within. absurd (omega (arith, within));
    count = breaks.written.0;
    short = breaks.written.1;
    written = printed-more fixed.written old.written new.written (printed old.events) (take breaks.written.0 (lines_of event.what)) prints.written breaks.written.2;
  };
  rose = subst (λ faults. Rose faults new.faults) prints.faults breaks.rose;
}

prints-refused : (fixed : Fixed) (old made : Core) (event : Event) (fault : CoreFault) → PrintsAll fixed old.sheet → Halts old made event fault → PrintsAt fixed made.sheet fault
prints-refused fixed old made event TooManyDocuments prints halts = prints-stays fixed old.sheet made.sheet prints halts.1.1
prints-refused fixed old made event (JournalFull used more) prints halts = prints-stays fixed old.sheet made.sheet prints halts.1.0.stays
prints-refused fixed old made event OutOfMemory prints halts = prints-stays fixed old.sheet made.sheet prints halts.1.stays
prints-refused fixed old made event WriteFault prints halts = prints-breaks fixed old.sheet made.sheet event prints halts.1.0
prints-refused fixed old made event Ended prints halts = absurd halts.1

-- ---- the step as a whole

module _ {T : Type 0} (old made : Core) (earlier : Option Refusal) (event : Event) (result : Result T CoreFault) (refusal : Option Refusal) (step : IsMade old made earlier event result refusal) where
  abbrev refusal_at : CoreFault → Option Refusal
  refusal_at fault = Some (record { by = event.by; at = length old.sheet.events; fault = fault; tried = tried_at fault event.what })

  abbrev Told_at : CoreFault → Type 0
  Told_at fault = refusal ≡ refusal_at fault

  pub Refuses-step : IfErr result (Refuses (record old { refusal = earlier }) (record made { refusal = refusal }) event)
  Refuses-step = by result step.err step.told
    where
      by : (r : Result T CoreFault) → IfErr r (Halts old made event) → IfErr r Told_at → IfErr r (Refuses (record old { refusal = earlier }) (record made { refusal = refusal }) event)
      by (Ok x) halts told = tt
      by (Err fault) halts told = inr (record { unrefused = step.unrefused; may = step.may; halts = Halts-kept old made earlier refusal event fault halts; kept = told })

  pub IsCatalog-step : IsCatalog (record old { refusal = earlier }) → IsCatalog (record made { refusal = refusal })
  IsCatalog-step catalog = by result step.ok step.err step.kept step.told
    where
      noted : NumbersNoted old
      noted = noted-now (record old { refusal = earlier }) catalog.numbered step.unrefused

      by : (r : Result T CoreFault) → OnOk r (Makes old made event) → IfErr r (Halts old made event) → OnOk r (refusal ≡ earlier) → IfErr r Told_at → IsCatalog (record made { refusal = refusal })
      by (Ok x) makes halts kept told =
          rw (kept, step.unrefused) (record {
            numbered = makes.numbered ∙ ap (λ ns. numbered_behind ns (step_in old event)) noted ∙ sym (numbered-now old made (step_in old event) makes.told.terms makes.adds.events);
            cause = tt;
          })
      by (Err fault) makes halts kept told =
          rw told (record {
            numbered = numbers-refused old made event fault (refusal_at fault) noted halts;
            cause = caused old made event fault (refusal_at fault) step.may halts;
          })

  pub KeepsFixed-step : KeepsFixed (record old { refusal = earlier }) (record made { refusal = refusal })
  KeepsFixed-step fixed has = by result step.ok step.err step.kept step.told
    where
      prints : PrintsAll fixed old.sheet
      prints = subst (PrintsAfter fixed old.sheet) step.unrefused has.prints

      by : (r : Result T CoreFault) → OnOk r (Makes old made event) → IfErr r (Halts old made event) → OnOk r (refusal ≡ earlier) → IfErr r Told_at → HasFixed fixed (record made { refusal = refusal })
      by (Ok x) makes halts kept told =
          rw (kept, step.unrefused) (record {
            limit = makes.adds.limit ∙ has.limit;
            most = makes.told.most ∙ has.most;
            terms = makes.told.terms ∙ has.terms;
            prints = prints-adds fixed old.sheet made.sheet (step_in old event) prints makes.adds;
          })
      by (Err fault) makes halts kept told =
          rw told (record {
            limit = limit-refused old made event fault halts ∙ has.limit;
            most = halts.0.most ∙ has.most;
            terms = halts.0.terms ∙ has.terms;
            prints = prints-refused fixed old made event fault prints halts;
          })

-- ---- erasing and opening

-- what opening gives is told of the catalogue without its refusal
pub OpensFirst-kept : (before now : Core) (one other : Option Refusal) (by : ℕ) (result : Result (Option Question) CoreFault) → IfOk result (OpensFirst before now by)
    → IfOk result (OpensFirst (record before { refusal = one }) (record now { refusal = other }) by)
OpensFirst-kept before now one other by (Err fault) opens = tt
OpensFirst-kept before now one other by (Ok None) opens =
    let rests = opens.1 in
    (opens.0, record { stays = rests.stays; told = record { terms = rests.told.terms; most = rests.told.most }; numbered = rests.numbered })
OpensFirst-kept before now one other by (Ok (Some question)) opens =
    let makes = opens.makes in
    record {
      makes = record { adds = makes.adds; within = makes.within; told = record { terms = makes.told.terms; most = makes.told.most }; numbered = makes.numbered };
      first = opens.first;
      at = opens.at;
      plain = opens.plain;
    }

-- opening the first query that waits adds its event
pub opening-made : (old new : Core) (by id : ℕ) (tree : Restriction) (result : Result (Option Question) CoreFault) → IsFirstWaiting old.terms old.sheet.events id tree → IfOk result (OpensFirst old new by)
    → OnOk result (Makes old new (event by (Opened id)))
opening-made old new by id tree (Err fault) first opens = tt
opening-made old new by id tree (Ok None) first opens = absurd (opens.0 id tree first.waits)
opening-made old new by id tree (Ok (Some question)) first opens =
    subst (λ (n : ℕ). Makes old new (event by (Opened n))) (same_first old.terms old.sheet.events question.id id question.tree tree opens.first first) opens.makes

-- and its refusal is that of this event
pub RefusesOpening-of : {T : Type 0} (old new : Core) (by id : ℕ) (result : Result T CoreFault) → IfErr result (Refuses old new (event by (Opened id))) → IfErr result (RefusesOpening old new by)
RefusesOpening-of old new by id (Ok x) refused = tt
RefusesOpening-of old new by id (Err fault) refused = ⊎_elim (λ over. inl over) (λ first. inr (id, first)) refused

pub halts-first : {T : Type 0} (First : ℕ → Restriction → Type 0) (P : ℕ → CoreFault → Type 0) (id : ℕ) (tree : Restriction) (result : Result T CoreFault)
    → IfErr result (λ fault. (i : ℕ) (t : Restriction) → First i t → P i fault) → First id tree → IfErr result (P id)
halts-first First P id tree (Ok x) halts is = tt
halts-first First P id tree (Err fault) halts is = halts id tree is
