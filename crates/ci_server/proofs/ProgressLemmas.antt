-- A session goes on, line by line, until it ends.
use Rattle.std.proofs.Common.{◌≡◌, ◌∙◌, ◌+◌, ℕ, Bool, true, false, List, [], ◌∷◌, ◌++◌, ◌⊎◌, Option, Some, None, length, map, flat_map, inl, inr, ⊎_elim, refl, ap, sym, subst, append_assoc, append-nil}
use Rattle.std.specs.List.{AllByRecursion}
use Rattle.std.proofs.lemmas.List.{map-append}
use Rattle.std.proofs.lemmas.Grind.{flat_map-append}
use Rattle.ci_io.specs.Lines.{HasNoFeed}
use Rattle.ci_io.specs.Reading.{Reading, ahead}
use Rattle.ci_journal.specs.declared.event.Event.{Event}
use Rattle.ci_journal.specs.declared.event.Happened.TheVariants.{Asked}
use Rattle.ci_journal.specs.declared.request.Request.{Request}
use Rattle.ci_journal.specs.declared.request.Request.TheVariants as asking
use Rattle.ci_journal.specs.Folds.{requests_in}
use Rattle.ci_journal.specs.Requests.{is_quit}
use Rattle.ci_journal.specs.Tells.{event}
use Rattle.ci_journal.specs.Terms.{Terms}
use Rattle.ci_journal.proofs.FoldsLemmas.{last_of-push}
use Rattle.ci_book.specs.declared.core_fault.CoreFault.{CoreFault}
use Rattle.ci_book.specs.declared.core_fault.CoreFault.TheVariants as fault
use Rattle.ci_holdings.specs.Core.{Core}
use Rattle.ci_server.specs.declared.status.Status.{Status}
use Rattle.ci_server.specs.declared.status.Status.TheVariants.{Done, Usage, ReadFault, WriteFault, JournalFull, TooManyDocuments, OutOfMemory, EndlessLine}
use Rattle.ci_server.specs.Progress.{Ends, FindsEnd, FitsLine, FitsSession, Progress, ServesLine, StopsAt}
use Rattle.ci_server.specs.Requests.{IsOfLine, Reads, Feeds, requests, requests_behind, line_request, with_feed}
use Rattle.ci_server.specs.Served.{IsBetween}
use Rattle.ci_server.specs.Session.{AsksFirst}
use Rattle.ci_worker.specs.Stops.{StopsIn}
use Rattle.ci_server.specs.Turns.{IsTurn, IsTurnFront, Turns}
use Rattle.ci_server.specs.Turns.Turns.{None as no_turns, Turn}
use Rattle.ci_worker.proofs.StepLemmas.{Remains-refl, Remains-trans}
use Rattle.ci_server.proofs.StepsLemmas.{requests_in-append}
use Rattle.ci_worker.proofs.StopLemmas.{StopsIn-map}
use Rattle.ci_server.proofs.TurnLemmas.{asked-first, asked-steps}

Reads-none : (told : Option (List ℕ)) → Reads told told [] false
Reads-none None = tt
Reads-none (Some all) = refl

Reads-append : (a b c : Option (List ℕ)) (xs ys : List Request) (quit : Bool) → Reads a b xs false → Reads b c ys quit → Reads a c (xs ++ ys) quit
Reads-append None b c xs ys quit one other = tt
Reads-append (Some all) None c xs ys quit one other = absurd one
Reads-append (Some all) (Some mid) None xs ys quit one other = absurd other
Reads-append (Some all) (Some mid) (Some rest) xs ys quit one other = one ∙ ap (λ rs. xs ++ rs) other ∙ sym (append_assoc xs ys (requests_behind quit rest))

Feeds-none : (told : Option (List ℕ)) → Feeds told told []
Feeds-none None = tt
Feeds-none (Some all) = record { raws = []; whole = refl; each = tt; requests_are = refl }

All-append : {X : Type 0} (P : X → Type 0) (xs ys : List X) → AllByRecursion P xs → AllByRecursion P ys → AllByRecursion P (xs ++ ys)
All-append P [] ys one other = other
All-append P (x ∷ xs) ys one other = (one.0, All-append P xs ys one.1 other)

Feeds-append : (a b c : Option (List ℕ)) (xs ys : List Request) → Feeds a b xs → Feeds b c ys → Feeds a c (xs ++ ys)
Feeds-append None b c xs ys one other = tt
Feeds-append (Some all) None c xs ys one other = absurd one
Feeds-append (Some all) (Some mid) None xs ys one other = absurd other
Feeds-append (Some all) (Some mid) (Some rest) xs ys one other = record {
  raws = one.raws ++ other.raws;
  whole = one.whole ∙ ap (λ bs. flat_map with_feed one.raws ++ bs) other.whole ∙ sym (append_assoc (flat_map with_feed one.raws) (flat_map with_feed other.raws) rest)
      ∙ ap (λ bs. bs ++ rest) (sym (flat_map-append with_feed one.raws other.raws));
  each = All-append HasNoFeed one.raws other.raws one.each other.each;
  requests_are = ap (λ rs. rs ++ ys) one.requests_are ∙ ap (λ rs. map line_request one.raws ++ rs) other.requests_are ∙ sym (map-append line_request one.raws other.raws);
}

-- what hasn't ended afterwards hadn't ended before
not_ended : (before now : Bool) → (before ≡ true → now ≡ true) → now ≡ false → before ≡ false
not_ended true now stays e = absurd (let t = stays refl in cc)
not_ended false now stays e = refl

only_quit : (request : Request) → is_quit request ≡ true → request ≡ asking.Quit
only_quit asking.Quit is = refl
only_quit (asking.Changed path) is = absurd (cc)
only_quit (asking.Deleted path) is = absurd (cc)
only_quit (asking.Put path text) is = absurd (cc)
only_quit (asking.Query text) is = absurd (cc)
only_quit asking.Filter is = absurd (cc)
only_quit asking.Shadow is = absurd (cc)
only_quit asking.Master is = absurd (cc)
only_quit asking.Step is = absurd (cc)
only_quit asking.Scan is = absurd (cc)
only_quit asking.Pending is = absurd (cc)
only_quit asking.Unfiltered is = absurd (cc)
only_quit asking.Status is = absurd (cc)
only_quit (asking.Load seed count) is = absurd (cc)
only_quit asking.Wait is = absurd (cc)
only_quit asking.Bad is = absurd (cc)
only_quit asking.Long is = absurd (cc)

pub Progress-none : (first : Reading) (start : Core) → start.sheet.events ≡ [] → IsBetween start → Progress first start first start false
Progress-none first start fresh between = record {
  served = [];
  turns = subst (λ es. Turns start.terms es []) (sym fresh) no_turns;
  of_lines = tt;
  remains = Remains-refl start;
  between = between;
  reads = Reads-none (ahead first);
  feeds = λ _. Feeds-none (ahead first);
  at_end = λ never. absurd (cc);
  last = λ never. absurd (cc);
  goes_on = λ _ never. absurd (let none : None ≡ Some asking.Quit = never in cc);
  faults = refl;
}

pub Progress-line : (first : Reading) (start : Core) (before : Reading) (mid : Core) (now : Reading) (core : Core) (quit : Bool) → Progress first start before mid false → ServesLine before now mid core quit → Progress first start now core quit
Progress-line first start before mid now core quit progress served_line = record {
  served = progress.served ++ served_line.request ∷ [];
  turns = subst (λ es. Turns start.terms es (progress.served ++ served_line.request ∷ [])) (sym served_line.serves.events_are)
      (Turn mid.sheet.events progress.served (length (requests_in mid.sheet.events) + 1) served_line.request served_line.serves.events progress.turns
      (subst (λ (t : Terms). IsTurn t mid.sheet.events (length (requests_in mid.sheet.events) + 1) served_line.request served_line.serves.events) progress.remains.told.terms served_line.serves.turn));
  of_lines = All-append IsOfLine progress.served (served_line.request ∷ []) progress.of_lines (served_line.of_line, tt);
  remains = Remains-trans start mid core progress.remains served_line.serves.remains;
  between = served_line.serves.between;
  reads = Reads-append (ahead first) (ahead before) (ahead now) progress.served (served_line.request ∷ []) quit progress.reads served_line.reads;
  feeds = λ open_now. Feeds-append (ahead first) (ahead before) (ahead now) progress.served (served_line.request ∷ [])
      (progress.feeds (not_ended before.ended now.ended served_line.stays_ended open_now)) (served_line.feeds open_now);
  at_end = λ _. served_line.at_end;
  last = λ is. last_of-push progress.served served_line.request ∙ ap Some (only_quit served_line.request (served_line.quits ∙ is));
  goes_on = λ is quits. absurd (
      let both : Some served_line.request ≡ Some asking.Quit = sym (last_of-push progress.served served_line.request) ∙ quits in
      let same : served_line.request ≡ asking.Quit = cc in
      let yes : is_quit served_line.request ≡ true = ap is_quit same in
      let no : is_quit served_line.request ≡ false = served_line.quits ∙ is in
      cc);
  faults = served_line.faults ∙ progress.faults;
}

-- whole turns ask just their requests
pub asked-turns : (terms : Terms) (events : List Event) (served : List Request) → Turns terms events served → requests_in events ≡ served
asked-turns terms _ _ no_turns = refl
asked-turns terms _ _ (Turn journal served id request events turns turn) =
    requests_in-append journal events ∙ ap (λ rs. rs ++ requests_in events) (asked-turns terms journal served turns) ∙ ap (λ rs. served ++ rs) one
  where
    one : requests_in events ≡ request ∷ []
    one = ap requests_in turn.events_are ∙ ap (λ rs. request ∷ rs) (asked-steps terms (journal ++ event 0 (Asked id request) ∷ []) id request turn.steps turn.made)

-- whole turns of the lines that were read
pub FitsSession-whole : (terms : Terms) (all left : Option (List ℕ)) (quit : Bool) (journal : List Event) (served : List Request) → Turns terms journal served → AllByRecursion IsOfLine served → Reads all left served quit → FitsSession terms all journal
FitsSession-whole terms all left quit journal served turns of_lines reads = record {
  turns = record { whole = journal; turns = (served, turns); front = []; events = sym (append-nil journal); cut = inl refl };
  lines = by all left reads;
}
  where
    by : (all left : Option (List ℕ)) → Reads all left served quit → AsksFirst all journal
    by None left reads = subst (λ rs. AllByRecursion IsOfLine rs) (sym (asked-turns terms journal served turns)) of_lines
    by (Some all) None reads = absurd reads
    by (Some all) (Some rest) reads = (requests_behind quit rest, reads ∙ ap (λ rs. rs ++ requests_behind quit rest) (sym (asked-turns terms journal served turns)))

-- the first events of a turn ask its request, or nothing yet
asked-front : (terms : Terms) (journal : List Event) (id : ℕ) (request : Request) (front : List Event) → IsTurnFront terms journal id request front → (requests_in front ≡ []) ⊎ (requests_in front ≡ request ∷ [])
asked-front terms journal id request front fits =
    ⊎_elim (λ none. inl (ap requests_in none))
    (λ begun. inr (ap requests_in begun.2 ∙ ap (λ rs. request ∷ rs) (asked-first terms (journal ++ event 0 (Asked id request) ∷ []) id request begun.0 begun.1))) fits

-- and behind them the first events of the next line's turn
FitsSession-line : (terms : Terms) (all left : Option (List ℕ)) (before : List Event) (served : List Request) → Turns terms before served → AllByRecursion IsOfLine served → Reads all left served false → (journal : List Event) → FitsLine terms left before journal → FitsSession terms all journal
FitsSession-line terms all left before served turns of_lines reads journal fits =
    ⊎_elim (λ same. subst (FitsSession terms all) (sym same) (FitsSession-whole terms all left false before served turns of_lines reads))
    (λ begun. let id = length (requests_in before) + 1 in
    record {
      turns = record { whole = before; turns = (served, turns); front = begun.4.0; events = begun.4.2; cut = inr (id, begun.0, begun.4.1) };
      lines = by all left begun.1 begun.0 begun.4.0 begun.3 reads begun.2
          (ap requests_in begun.4.2 ∙ requests_in-append before begun.4.0 ∙ ap (λ rs. rs ++ requests_in begun.4.0) (asked-turns terms before served turns)) (asked-front terms before id begun.0 begun.4.0 begun.4.1);
    }) fits
  where
    by : (all left rest : Option (List ℕ)) (next : Request) (front : List Event) → IsOfLine next → Reads all left served false → Reads left rest (next ∷ []) (is_quit next) → requests_in journal ≡ served ++ requests_in front
        → (requests_in front ≡ []) ⊎ (requests_in front ≡ next ∷ []) → AsksFirst all journal
    by None left rest next front of_line reads line asks either =
        ⊎_elim (λ none. subst (λ rs. AllByRecursion IsOfLine rs) (sym (asks ∙ ap (λ rs. served ++ rs) none ∙ append-nil served)) of_lines)
        (λ one. subst (λ rs. AllByRecursion IsOfLine rs) (sym (asks ∙ ap (λ rs. served ++ rs) one)) (All-append IsOfLine served (next ∷ []) of_lines (of_line, tt))) either
    by (Some all) None rest next front of_line reads line asks either = absurd reads
    by (Some all) (Some mid) None next front of_line reads line asks either = absurd line
    by (Some all) (Some mid) (Some rest) next front of_line reads line asks either =
        ⊎_elim (λ none. (requests mid, reads ∙ ap (λ rs. rs ++ requests mid) (sym (asks ∙ ap (λ rs. served ++ rs) none ∙ append-nil served))))
        (λ one. (
          requests_behind (is_quit next) rest,
          reads ∙ ap (λ rs. served ++ rs) line ∙ sym (append_assoc served (next ∷ []) (requests_behind (is_quit next) rest))
              ∙ ap (λ rs. rs ++ requests_behind (is_quit next) rest) (sym (asks ∙ ap (λ rs. served ++ rs) one)),
        )) either

in_session : (first : Reading) (start : Core) (before : Reading) (mid core : Core) (refusal : CoreFault) → Progress first start before mid false → StopsIn (FitsLine mid.terms (ahead before) mid.sheet.events) mid core refusal
    → StopsIn (FitsSession start.terms (ahead first)) start core refusal
in_session first start before mid core refusal progress stops =
    StopsIn-map (FitsLine mid.terms (ahead before) mid.sheet.events) (FitsSession start.terms (ahead first))
    (λ journal fits. FitsSession-line start.terms (ahead first) (ahead before) mid.sheet.events progress.served progress.turns progress.of_lines progress.reads journal
    (subst (λ (t : Terms). FitsLine t (ahead before) mid.sheet.events journal) progress.remains.told.terms fits)) start mid core refusal progress.remains stops

-- the source had ended behind the last line
pub Ends-over : (first : Reading) (start : Core) (before now : Reading) (mid core : Core) → Progress first start before mid false → FindsEnd before now mid core → Ends first start now core Done
Ends-over first start before now mid core progress found =
    inr (record { before = before; progress = subst (λ (c : Core). Progress first start before c false) (sym found.untouched) progress; over = found.over })

-- a line was not read or not served
pub Ends-stop : (first : Reading) (start : Core) (before now : Reading) (mid core : Core) (status : Status) → Progress first start before mid false → StopsAt before now mid core status → Ends first start now core status
Ends-stop first start before now mid core Done progress stops = absurd stops
Ends-stop first start before now mid core Usage progress stops = absurd stops
Ends-stop first start before now mid core ReadFault progress stops =
    (before, record { progress = subst (λ (c : Core). Progress first start before c false) (sym stops.0) progress; unread = stops.1 }, stops.2)
Ends-stop first start before now mid core EndlessLine progress stops =
    (before, record { progress = subst (λ (c : Core). Progress first start before c false) (sym stops.0) progress; unread = stops.1 }, stops.2)
Ends-stop first start before now mid core WriteFault progress stops = in_session first start before mid core fault.WriteFault progress stops
Ends-stop first start before now mid core (JournalFull used more) progress stops = in_session first start before mid core (fault.JournalFull used more) progress stops
Ends-stop first start before now mid core TooManyDocuments progress stops = in_session first start before mid core fault.TooManyDocuments progress stops
Ends-stop first start before now mid core OutOfMemory progress stops = in_session first start before mid core fault.OutOfMemory progress stops
