-- One line that was read, or wasn't.
use Rattle.std.proofs.Common.{◌≡◌, ◌∙◌, ◌+◌, ℕ, Bool, true, false, not, List, [], ◌∷◌, ◌++◌, Option, Some, None, length, map, Contains, ⊎_elim, inl, inr, refl, ap, sym, subst, append-nil, append_assoc, arith, nat_le, if◌then◌else◌}
use Rattle.std.proofs.lemmas.Bool.Decides.{nat_tests}
use Rattle.ci_io.specs.declared.line.Line.{Line}
use Rattle.ci_io.specs.declared.line.Line.TheVariants as line
use Rattle.ci_io.specs.declared.read_fault.ReadFault.{ReadFault as LineFault}
use Rattle.ci_io.specs.declared.read_fault.ReadFault.TheVariants as read
use Rattle.ci_io.specs.Causes.{Rose}
use Rattle.ci_io.specs.Lines.{HasNoFeed, raw_lines}
use Rattle.ci_io.specs.ReadLine as reader
use Rattle.ci_io.specs.Reading.{Reading, BeginsTooLong, IsBeforeEnd, IsEndless, IsShort, Loses, TakesAll, TakesFed, TakesLine, ahead}
use Rattle.ci_keys.proofs.OneForm.{Contains-cons_cases, Contains-first, Contains-later}
use Rattle.ci_journal.specs.Folds.{requests_in}
use Rattle.ci_journal.specs.Requests.{is_quit, request_of}
use Rattle.ci_book.specs.declared.core_fault.CoreFault.{CoreFault}
use Rattle.ci_book.specs.declared.core_fault.CoreFault.TheVariants as fault
use Rattle.ci_holdings.specs.Core.{Core}
use Rattle.ci_server.specs.declared.status.Status.{Status}
use Rattle.ci_server.specs.declared.status.Status.TheVariants.{Done, Usage, ReadFault, WriteFault, JournalFull, TooManyDocuments, OutOfMemory, EndlessLine}
use Rattle.ci_server.specs.Progress.{FitsLine, GoesOn, ServesLine, StopsAt}
use Rattle.ci_server.specs.Requests.{Reads, Feeds, before_endless, is_end, line_request, requests_behind, through_quit, with_feed}
use Rattle.ci_server.specs.Served.{FitsTurn, ServesTurn, StopsTurn}
use Rattle.ci_server.specs.Status.{refusal_told, status_of_read}
use Rattle.ci_worker.specs.Stops.{IsSound, StopsIn}
use Rattle.ci_worker.proofs.StepLemmas.{Remains-refl}
use Rattle.ci_worker.proofs.StopLemmas.{StopsIn-map, StopsIn-starved}

-- the first line's request is the first request
Reads-line : (old new : Option (List ℕ)) (given : Line) → TakesLine old new given → Reads old new (request_of given ∷ []) (is_quit (request_of given))
Reads-line None new given takes = tt
Reads-line (Some all) None given takes = absurd takes
Reads-line (Some all) (Some rest) given takes =
    let ends : nat_le 1073741824 (length takes.0) ≡ false = grind (arith, nat_tests, takes.1) in
    ap (λ ls. through_quit (map line_request (before_endless ls))) takes.3.first
    ∙ ap (λ (b : Bool). through_quit (map line_request (if b then [] else takes.0 ∷ before_endless (raw_lines rest)))) ends ∙ ap (λ l. request_of l ∷ requests_behind (is_quit (request_of l)) rest) (sym takes.2)

-- a line whose line feed was taken
Feeds-line : (old new : Option (List ℕ)) (given : Line) → TakesFed old new given → Feeds old new (request_of given ∷ [])
Feeds-line None new given takes = tt
Feeds-line (Some all) None given takes = absurd takes
Feeds-line (Some all) (Some rest) given takes = record {
  raws = takes.0 ∷ [];
  whole = takes.3 ∙ sym (ap (λ bs. bs ++ rest) (append-nil (with_feed takes.0)) ∙ append_assoc takes.0 (10 ∷ []) rest);
  each = (takes.2, tt);
  requests_are = ap (λ l. request_of l ∷ []) takes.1;
}

takes_given : (before now : Reading) (given : Line) → is_end given ≡ false → reader.Gives before now given → TakesLine (ahead before) (ahead now) given
takes_given before now (line.Text text) some gives = gives
takes_given before now line.Long some gives = gives
takes_given before now line.End some gives = absurd (cc)

fed_given : (before now : Reading) (given : Line) → is_end given ≡ false → reader.Feeds before now given → TakesFed (ahead before) (ahead now) given
fed_given before now (line.Text text) some feeds = feeds
fed_given before now line.Long some feeds = feeds
fed_given before now line.End some feeds = absurd (cc)

-- a line was read
module _ (before now : Reading) (given : Line) (some : is_end given ≡ false) (gives : reader.Gives before now given) (short : IsShort given) (old new : Core) where
  pub GoesOn-served : (now.ended ≡ false → reader.Feeds before now given) → (now.ended ≡ true → TakesAll before now) → (before.ended ≡ true → now.ended ≡ true) → now.faults ≡ before.faults
      → ServesTurn old new (length (requests_in old.sheet.events) + 1) (request_of given) → (quits : Bool) → quits ≡ is_quit (request_of given) → GoesOn before now old new (not quits)
  GoesOn-served feeds takes_all stays_ended faults serves quits quits_is = by quits (sym quits_is)
    where
      line_served : (quit : Bool) → is_quit (request_of given) ≡ quit → ServesLine before now old new quit
      line_served quit is = record {
        request = request_of given;
        of_line = (given, short, refl);
        quits = is;
        reads = subst (Reads (ahead before) (ahead now) (request_of given ∷ [])) is (Reads-line (ahead before) (ahead now) given (takes_given before now given some gives));
        feeds = λ open_now. Feeds-line (ahead before) (ahead now) given (fed_given before now given some (feeds open_now));
        at_end = λ ended. (takes_all ended).left;
        stays_ended = stays_ended;
        faults = faults;
        serves = serves;
      }

      by : (quit : Bool) → is_quit (request_of given) ≡ quit → GoesOn before now old new (not quit)
      by true is = inl (line_served true is)
      by false is = line_served false is

  -- and its request's turn was cut off
  pub StopsIn-line : (refusal : CoreFault) → StopsTurn old new (length (requests_in old.sheet.events) + 1) (request_of given) refusal → StopsIn (FitsLine old.terms (ahead before) old.sheet.events) old new refusal
  StopsIn-line refusal stops =
      StopsIn-map (FitsTurn old.terms old.sheet.events (length (requests_in old.sheet.events) + 1) (request_of given)) (FitsLine old.terms (ahead before) old.sheet.events)
      (λ journal fits. inr (request_of given, ahead now, Reads-line (ahead before) (ahead now) given (takes_given before now given some gives), (given, short, refl), fits)) old old new refusal (Remains-refl old) stops

-- the status tells the refusal
pub StopsAt-step : (before now : Reading) (old new : Core) (refusal : CoreFault) (status : Status) → refusal_told status ≡ Some refusal → StopsIn (FitsLine old.terms (ahead before) old.sheet.events) old new refusal → StopsAt before now old new status
StopsAt-step before now old new refusal Done told stops = absurd (cc)
StopsAt-step before now old new refusal Usage told stops = absurd (cc)
StopsAt-step before now old new refusal ReadFault told stops = absurd (cc)
StopsAt-step before now old new refusal EndlessLine told stops = absurd (cc)
StopsAt-step before now old new refusal WriteFault told stops =
    let same : refusal ≡ fault.WriteFault = cc in subst (StopsIn (FitsLine old.terms (ahead before) old.sheet.events) old new) same stops
StopsAt-step before now old new refusal (JournalFull used more) told stops =
    let same : refusal ≡ fault.JournalFull used more = cc in subst (StopsIn (FitsLine old.terms (ahead before) old.sheet.events) old new) same stops
StopsAt-step before now old new refusal TooManyDocuments told stops =
    let same : refusal ≡ fault.TooManyDocuments = cc in subst (StopsIn (FitsLine old.terms (ahead before) old.sheet.events) old new) same stops
StopsAt-step before now old new refusal OutOfMemory told stops =
    let same : refusal ≡ fault.OutOfMemory = cc in subst (StopsIn (FitsLine old.terms (ahead before) old.sheet.events) old new) same stops

-- where neither has a line feed, both together have none
HasNoFeed-append : (xs ys : List ℕ) → HasNoFeed xs → HasNoFeed ys → HasNoFeed (xs ++ ys)
HasNoFeed-append [] ys none other = other
HasNoFeed-append (x ∷ xs) ys none other = λ here.
    ⊎_elim (λ (first : x ≡ 10). none (subst (λ y. Contains (x ∷ xs) y) first (Contains-first x xs)))
    (λ later. HasNoFeed-append xs ys (λ there. none (Contains-later x xs 10 there)) other later) (Contains-cons_cases x (xs ++ ys) 10 here)

-- why no line was read
pub record IsCause (before now : Reading) (refusal : LineFault) : Type 0 where
  pub loses : Loses before now
  pub rose : refusal ≡ read.Failed → Rose before.faults now.faults
  pub held : refusal ≡ read.Failed → HasNoFeed now.held
  pub failed_before_end : refusal ≡ read.Failed → IsBeforeEnd before now
  pub endless : refusal ≡ read.Endless → IsEndless before now
  pub too_long : refusal ≡ read.Endless → BeginsTooLong (ahead before)
  pub endless_before_end : refusal ≡ read.Endless → IsBeforeEnd before now

pub StopsAt-unread : (before now : Reading) (core : Core) (refusal : LineFault) → IsSound core → IsCause before now refusal → StopsAt before now core core (status_of_read refusal)
StopsAt-unread before now core read.Failed sound cause =
    (refl, record { loses = cause.loses; begun = HasNoFeed-append cause.loses.lost now.held cause.loses.whole (cause.held refl); before_end = (cause.failed_before_end refl).0 }, cause.rose refl)
StopsAt-unread before now core read.Endless sound cause =
    (refl, record { loses = (cause.endless refl).loses; begun = (cause.endless refl).whole; before_end = (cause.endless_before_end refl).0 }, cause.too_long refl)
StopsAt-unread before now core read.OutOfMemory sound cause = StopsIn-starved (FitsLine core.terms (ahead before) core.sheet.events) core sound (inl refl)
