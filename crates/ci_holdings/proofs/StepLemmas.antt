-- What a catalogue keeps, step by step.
use Rattle.std.proofs.Common.{arith, ◌≡◌, ◌∙◌, ℕ, ◌+◌, true, false, List, [], ◌∷◌, ◌++◌, length, filter, not, ◌==◌, nat_lt, Option, Some, None, option_to_list, refl, ap, sym, subst, append-nil, append_assoc}
use Rattle.ci_base.specs.declared.numbers.Seq.{Seq}
use Rattle.ci_change.specs.declared.notice.What.{What}
use Rattle.ci_change.specs.declared.notice.What.TheVariants.{Changed}
use Rattle.ci_change.specs.HandedIn.{HandedIn, with_notice, with_served, notice_of}
use Rattle.ci_change.specs.Pending.{served_number}
use Rattle.ci_chunk.specs.declared.piece.Piece.{Piece}
use Rattle.ci_dialect.specs.declared.restriction.Restriction.{Restriction}
use Rattle.ci_entry.specs.Entry.{entry_of}
use Rattle.ci_keys.specs.Entry.{EntryLists}
use Rattle.ci_journal.specs.declared.event.Happened.TheVariants.{Asked, Put, Erased, Opened, Answered, Said}
use Rattle.ci_journal.specs.declared.reply.Reply.{Reply}
use Rattle.ci_journal.specs.declared.request.Request.{Request}
use Rattle.ci_journal.specs.declared.event.Event.{Event}
use Rattle.std.specs.FinMap.{entries}
use Rattle.ci_journal.specs.Bytes.{capped, event_bytes}
use Rattle.ci_journal.specs.Queries.{AsksAt}
use Rattle.ci_journal.specs.Filings.{fates}
use Rattle.ci_journal.specs.Folds.{requests_in}
use Rattle.ci_journal.specs.Pending.{charge_of, charges_in, refusal_of, refusals_in}
use Rattle.ci_journal.specs.Served.{live_map, number_of, numbers_of, served_by}
use Rattle.ci_journal.specs.Step.{MayPut, MayErase, MayAnswer, MaySay, shadow_before}
use Rattle.ci_journal.specs.Tells.{Filing, event}
use Rattle.ci_journal.specs.Tells.Fate.{Filtered, Gone}
use Rattle.ci_journal.specs.Terms.{Beginning, Served, Terms}
use Rattle.ci_journal.proofs.FoldsLemmas.{numbers_of-push, served_by-push}
use Rattle.ci_journal.proofs.TellsLemmas.{filter_map-push}
use Rattle.ci_holdings.specs.declared.waiting.Waiting.{Waiting}
use Rattle.ci_holdings.specs.Asking.{TellsTree, grown}
use Rattle.ci_book.specs.Book.{IsWithin}
use Rattle.ci_book.specs.Changes.{Enters, IsReady, Puts, noted}
use Rattle.ci_documents.specs.Documents.{Standings, StandFor, KeepsEntries, Serves, Settles}
use Rattle.ci_holdings.specs.Kept.{IsHolding, Shelf, StartsEmpty}
use Rattle.ci_holdings.specs.declared.question.Question.{Question}
use Rattle.ci_holdings.specs.Open.{AreOpen}
use Rattle.ci_book.specs.Sheet.{Sheet}
use Rattle.ci_holdings.specs.Waiting.{IsQueue, Marks, marked_at}
use Rattle.ci_holdings.proofs.KeptLemmas.{Follows, IsHolding-adds, IsHolding-follows}
use Rattle.ci_holdings.proofs.OpenLemmas.{AreOpen-later, AreOpen-opened, AreOpen-replied}
use Rattle.ci_holdings.proofs.WithinLemmas.{IsWithin-whole}
use Rattle.ci_holdings.proofs.QueueLemmas.{IsQueue-asked, IsQueue-first, IsQueue-opened, IsQueue-silent}
use Rattle.ci_holdings.proofs.ServedLemmas.{StandFor-keeps, StandFor-filtered, StandFor-erased, served_by-numbers}

-- one filing more is served too
-- no shadow comes before an event where entries are kept whole
pub no_shadow : (terms : Terms) (journal : List Event) (by : ℕ) → StartsEmpty terms → shadow_before terms journal by ≡ []
no_shadow terms journal by starts = rw starts.whole refl

module _ (terms : Terms) (old : Sheet) (shelf : Shelf) (kept : IsHolding terms old shelf) where
  abbrev Kept : Sheet → Shelf → Type 0
  Kept new after = IsHolding terms new after

  -- a request was asked
  pub asked-kept : (ready new : Sheet) (by : ℕ) (request : Request) (tree : Option Restriction) (after : List Waiting) (marks : Marks) → by ≡ 0 → (counted : ℕ) → counted ≡ capped (event_bytes (Asked (shelf.requests + 1) request)) → IsReady old ready shelf.places counted → TellsTree terms.noise request tree →
      after ≡ grown shelf.waiting (shelf.requests + 1) tree → marks.list ≡ shelf.marks.list ++ false ∷ [] →
      Puts ready new (event by (Asked (shelf.requests + 1) request)) → Kept new (record shelf { waiting = after; marks = marks; requests = shelf.requests + 1 })
  asked-kept ready new by request tree after marks foreground counted counts fits asks waits marked puts =
      let next : shelf.requests + 1 ≡ length (requests_in old.events) + 1 = omega (arith, kept.counts.requests) in
      let after_ask : Shelf = record shelf { waiting = after; marks = marks; requests = shelf.requests + 1 } in
      let follows : Follows terms old (event by (Asked (shelf.requests + 1) request)) shelf after_ask = record {
        may = record { foreground = foreground; next = next };
        alone = refl;
        requests = omega arith;
        replies = omega arith;
        noted = omega arith;
        begun = omega arith;
        places = kept.counts.places;
        failed = refl;
        opened = AreOpen-later terms old.events (event by (Asked (shelf.requests + 1) request)) shelf.questions refl kept.opened;
        waits = subst (IsQueue terms (old.events ++ event by (Asked (shelf.requests + 1) request) ∷ [])) (sym waits)
            (IsQueue-asked terms old.events by (shelf.requests + 1) request shelf.waiting kept.run next tree asks kept.waits);
        marks = marked;
        notices = sym (append-nil _);
        served = kept.tracks.served;
        charges = kept.tracks.charges;
        refusals = kept.tracks.refusals;
        retries = refl;
        out = kept.tracks.out;
        stands = kept.stands;
      } in
      IsHolding-adds terms old ready new shelf.places counted _ shelf after_ask kept counts fits (omega arith) puts follows

  -- a path was noted
  pub noted-kept : (ready new : Sheet) (by : ℕ) (path : List ℕ) (what : What) (after : HandedIn) → by ≡ 0 → (counted : ℕ) → counted ≡ capped (event_bytes (noted by path (shelf.noted + 1) what).what) → IsReady old ready shelf.places counted →
      after ≡ with_notice shelf.changes (notice_of path (record { 0 = shelf.noted + 1 }) what) → Puts ready new (noted by path (shelf.noted + 1) what) → Kept new (record shelf { changes = after; noted = shelf.noted + 1 })
  noted-kept ready new by path what after foreground counted counts fits handed puts =
      let after_note : Shelf = record shelf { changes = after; noted = shelf.noted + 1 } in
      let follows : Follows terms old (noted by path (shelf.noted + 1) what) shelf after_note = record {
        may = record { foreground = foreground; scope = refl; next = omega (arith, kept.counts.noted, ap (λ (b : Beginning). b.next) kept.starts.beginning) };
        alone = refl;
        requests = omega arith;
        replies = omega arith;
        noted = omega arith;
        begun = omega arith;
        places = kept.counts.places;
        failed = refl;
        opened = AreOpen-later terms old.events (noted by path (shelf.noted + 1) what) shelf.questions refl kept.opened;
        waits = IsQueue-silent terms old.events (noted by path (shelf.noted + 1) what) shelf.waiting refl refl kept.waits;
        marks = refl;
        notices = ap (λ (h : HandedIn). h.notices) handed;
        served = ap (λ (h : HandedIn). h.served) handed ∙ kept.tracks.served;
        charges = ap (λ (h : HandedIn). h.charges) handed ∙ kept.tracks.charges;
        refusals = ap (λ (h : HandedIn). h.refusals) handed ∙ kept.tracks.refusals;
        retries = ap (λ (h : HandedIn). h.retries) handed;
        out = ap (λ (h : HandedIn). h.out) handed ∙ kept.tracks.out;
        stands = kept.stands;
      } in
      IsHolding-adds terms old ready new shelf.places counted _ shelf after_note kept counts fits (omega arith) puts follows

  -- one filing more was served
  serves : (filing : Filing) (served : HandedIn) → number_of filing ≡ Some (filing.path, filing.seq) → served ≡ with_served shelf.changes filing.path filing.seq
      → served.served ≡ terms.beginning.numbers ++ numbers_of (fates old.events ++ filing ∷ [])
  serves filing served counts handed =
      ap (λ (h : HandedIn). h.served) handed ∙ ap (λ ns. ns ++ (filing.path, filing.seq) ∷ []) kept.tracks.served
      ∙ append_assoc terms.beginning.numbers (numbers_of (fates old.events)) ((filing.path, filing.seq) ∷ [])
      ∙ ap (λ ns. terms.beginning.numbers ++ ns) (ap (λ o. numbers_of (fates old.events) ++ option_to_list o) (sym counts) ∙ sym (numbers_of-push (fates old.events) filing))

  -- which spent no attempt
  spent : (filing : Filing) (after : HandedIn) → charge_of filing ≡ None → after ≡ with_served shelf.changes filing.path filing.seq → after.charges ≡ charges_in (fates old.events ++ filing ∷ [])
  spent filing after free handed =
      ap (λ (h : HandedIn). h.charges) handed ∙ kept.tracks.charges ∙ sym (append-nil (charges_in (fates old.events)))
      ∙ ap (λ o. charges_in (fates old.events) ++ option_to_list o) (sym free) ∙ sym (filter_map-push charge_of (fates old.events) filing)

  -- and isn't a refusal
  unrefused : (filing : Filing) (after : HandedIn) → refusal_of filing ≡ None → after ≡ with_served shelf.changes filing.path filing.seq → after.refusals ≡ refusals_in (fates old.events ++ filing ∷ [])
  unrefused filing after free handed =
      ap (λ (h : HandedIn). h.refusals) handed ∙ kept.tracks.refusals ∙ sym (append-nil (refusals_in (fates old.events)))
      ∙ ap (λ o. refusals_in (fates old.events) ++ option_to_list o) (sym free) ∙ sym (filter_map-push refusal_of (fates old.events) filing)

  -- the number that a path was served under
  pub served_under : (path : List ℕ) → served_number shelf.changes.served path ≡ served_number (served_by terms (fates old.events)).numbers path
  served_under path = ap (λ ns. served_number ns path) (kept.tracks.served ∙ sym (served_by-numbers terms (fates old.events)))

  -- a transcript was put
  pub put-kept : (ready new : Sheet) (by : ℕ) (path : List ℕ) (seq served : Seq) (transcript : List Piece) (entry : EntryLists) (after : HandedIn) (mid documents : Standings) →
      MayPut terms old.events by (record { path = path; seq = seq; what = Changed }) → (counted : ℕ) → counted ≡ capped (event_bytes (Put path seq transcript)) → IsReady old ready shelf.places counted → entry ≡ entry_of terms.noise transcript → served ≡ record { 0 = served_number shelf.changes.served path } →
      after ≡ with_served shelf.changes path seq → KeepsEntries shelf.documents mid → Serves mid documents path (nat_lt served.0 seq.0) entry →
      Puts ready new (event by (Put path seq transcript)) → Kept new (record shelf { documents = documents; changes = after })
  put-kept ready new by path seq served transcript entry after mid documents may counted counts fits filled served_is handed keeps serves_entry puts =
      let filing : Filing = record { path = path; seq = seq; fate = Filtered transcript } in
      let after_put : Shelf = record shelf { documents = documents; changes = after } in
      let number : served.0 ≡ served_number (served_by terms (fates old.events)).numbers path = ap (λ (s : Seq). s.0) served_is ∙ served_under path in
      let follows : Follows terms old (event by (Put path seq transcript)) shelf after_put = record {
        may = may;
        alone = ap (λ es. es ++ event by (Put path seq transcript) ∷ []) (no_shadow terms old.events by kept.starts);
        requests = omega arith;
        replies = omega arith;
        noted = omega arith;
        begun = omega arith;
        places = kept.counts.places;
        failed = refl;
        opened = AreOpen-later terms old.events (event by (Put path seq transcript)) shelf.questions refl kept.opened;
        waits = IsQueue-silent terms old.events (event by (Put path seq transcript)) shelf.waiting refl refl kept.waits;
        marks = refl;
        notices = ap (λ (h : HandedIn). h.notices) handed ∙ sym (append-nil _);
        served = serves filing after refl handed;
        charges = spent filing after refl handed;
        refusals = unrefused filing after refl handed;
        retries = ap (λ (h : HandedIn). h.retries) handed;
        out = ap (λ (h : HandedIn). h.out) handed ∙ kept.tracks.out;
        stands = subst (λ (s : Served). StandFor s.documents documents) (sym (served_by-push terms (fates old.events) filing))
            (StandFor-filtered terms (served_by terms (fates old.events)) path seq transcript entry mid documents filled (StandFor-keeps _ _ mid kept.stands keeps)
            (subst (λ n. Serves mid documents path (nat_lt n seq.0) entry) number serves_entry));
      } in
      IsHolding-adds terms old ready new shelf.places counted _ shelf after_put kept counts fits (omega arith) puts follows

  -- a path was erased
  pub erased-kept : (ready new : Sheet) (by : ℕ) (path : List ℕ) (seq : Seq) (after : HandedIn) (documents : Standings) →
      MayErase terms old.events path seq → nat_lt (served_number shelf.changes.served path) seq.0 ≡ true → (counted : ℕ) → counted ≡ capped (event_bytes (Erased path seq)) → IsReady old ready shelf.places counted →
      after ≡ with_served shelf.changes path seq → Settles shelf.documents documents path None →
      Puts ready new (event by (Erased path seq)) → Kept new (record shelf { documents = documents; changes = after })
  erased-kept ready new by path seq after documents may later counted counts fits handed settles puts =
      let filing : Filing = record { path = path; seq = seq; fate = Gone } in
      let after_erasing : Shelf = record shelf { documents = documents; changes = after } in
      let follows : Follows terms old (event by (Erased path seq)) shelf after_erasing = record {
        may = may;
        alone = ap (λ es. es ++ event by (Erased path seq) ∷ []) (no_shadow terms old.events by kept.starts);
        requests = omega arith;
        replies = omega arith;
        noted = omega arith;
        begun = omega arith;
        places = kept.counts.places;
        failed = refl;
        opened = AreOpen-later terms old.events (event by (Erased path seq)) shelf.questions refl kept.opened;
        waits = IsQueue-silent terms old.events (event by (Erased path seq)) shelf.waiting refl refl kept.waits;
        marks = refl;
        notices = ap (λ (h : HandedIn). h.notices) handed ∙ sym (append-nil _);
        served = serves filing after refl handed;
        charges = spent filing after refl handed;
        refusals = unrefused filing after refl handed;
        retries = ap (λ (h : HandedIn). h.retries) handed;
        out = ap (λ (h : HandedIn). h.out) handed ∙ kept.tracks.out;
        stands = subst (λ (s : Served). StandFor s.documents documents) (sym (served_by-push terms (fates old.events) filing))
            (StandFor-erased terms (served_by terms (fates old.events)) path seq shelf.documents documents (subst (λ n. nat_lt n seq.0 ≡ true) (served_under path) later) kept.stands settles);
      } in
      IsHolding-adds terms old ready new shelf.places counted _ shelf after_erasing kept counts fits (omega arith) puts follows

  -- the first query that waited was opened
  pub opened-kept : (ready new : Sheet) (by : ℕ) (first : Waiting) (after : List Waiting) (question : Question) (questions : List Question) → (counted : ℕ) → counted ≡ capped (event_bytes (Opened first.id)) → IsReady old ready shelf.places counted → shelf.waiting ≡ first ∷ after →
      question.id ≡ first.id → question.tree ≡ first.tree → question.at ≡ length old.events + 1 → question.plain ≡ entries (live_map terms old.events) → questions ≡ shelf.questions ++ question ∷ [] →
      Puts ready new (event by (Opened first.id)) → Kept new (record shelf { waiting = after; questions = questions })
  opened-kept ready new by first after question questions counted counts fits front id_is tree_is at_is plain_is more puts =
      let after_opening : Shelf = record shelf { waiting = after; questions = questions } in
      let queue : IsQueue terms old.events (first ∷ after) = subst (IsQueue terms old.events) front kept.waits in
      let is_first = IsQueue-first terms old.events first after queue in
      let asks : AsksAt terms old.events question.id question.tree = subst (λ n. AsksAt terms old.events n question.tree) (sym id_is) (subst (AsksAt terms old.events first.id) (sym tree_is) is_first.waits.asks) in
      let follows : Follows terms old (event by (Opened first.id)) shelf after_opening = record {
        may = (first.tree, is_first);
        alone = refl;
        requests = omega arith;
        replies = omega arith;
        noted = omega arith;
        begun = omega arith;
        places = kept.counts.places;
        failed = refl;
        opened = rw more (subst (λ n. AreOpen terms (old.events ++ event by (Opened n) ∷ []) (shelf.questions ++ question ∷ [])) id_is
            (AreOpen-opened terms old.events by question shelf.questions asks at_is plain_is kept.opened));
        waits = IsQueue-opened terms old.events by first after queue;
        marks = refl;
        notices = sym (append-nil _);
        served = kept.tracks.served;
        charges = kept.tracks.charges;
        refusals = kept.tracks.refusals;
        retries = refl;
        out = kept.tracks.out;
        stands = kept.stands;
      } in
      IsHolding-adds terms old ready new shelf.places counted _ shelf after_opening kept counts fits (omega arith) puts follows

  -- the questions behind a reply
  abbrev without_reply : ℕ → List Question
  without_reply id = filter (λ (q : Question). not (q.id == id)) shelf.questions

  -- a reply stands in the journal
  pub said-kept : (new : Sheet) (by id : ℕ) (reply : Reply) (marks : Marks) (questions : List Question) → MaySay old.events id → marks.list ≡ marked_at shelf.marks.list id → questions ≡ without_reply id → Enters old new shelf.places (event by (Said id reply)) →
      Kept new (record shelf { marks = marks; questions = questions; replies = shelf.replies + 1 })
  said-kept new by id reply marks questions may marked closed enters =
      let after_saying : Shelf = record shelf { marks = marks; questions = questions; replies = shelf.replies + 1 } in
      let follows : Follows terms old (event by (Said id reply)) shelf after_saying = record {
        may = may;
        alone = refl;
        requests = omega arith;
        replies = omega arith;
        noted = omega arith;
        begun = omega arith;
        places = kept.counts.places;
        failed = refl;
        opened = rw closed (AreOpen-replied terms old.events (event by (Said id reply)) id shelf.questions refl refl kept.opened);
        waits = IsQueue-silent terms old.events (event by (Said id reply)) shelf.waiting refl refl kept.waits;
        marks = marked;
        notices = sym (append-nil _);
        served = kept.tracks.served;
        charges = kept.tracks.charges;
        refusals = kept.tracks.refusals;
        retries = refl;
        out = kept.tracks.out;
        stands = kept.stands;
      } in
      IsHolding-follows terms old _ shelf after_saying kept follows new enters.events enters.limit (subst (IsWithin new.limit) enters.events (IsWithin-whole new.limit new.events enters.within)) enters.room

  pub answered-kept : (new : Sheet) (by id at : ℕ) (paths : List (List ℕ)) (marks : Marks) (questions : List Question) → MayAnswer terms old.events id at paths → marks.list ≡ marked_at shelf.marks.list id → questions ≡ without_reply id → Enters old new shelf.places (event by (Answered id at paths)) →
      Kept new (record shelf { marks = marks; questions = questions; replies = shelf.replies + 1 })
  answered-kept new by id at paths marks questions may marked closed enters =
      let after_answering : Shelf = record shelf { marks = marks; questions = questions; replies = shelf.replies + 1 } in
      let follows : Follows terms old (event by (Answered id at paths)) shelf after_answering = record {
        may = may;
        alone = refl;
        requests = omega arith;
        replies = omega arith;
        noted = omega arith;
        begun = omega arith;
        places = kept.counts.places;
        failed = refl;
        opened = rw closed (AreOpen-replied terms old.events (event by (Answered id at paths)) id shelf.questions refl refl kept.opened);
        waits = IsQueue-silent terms old.events (event by (Answered id at paths)) shelf.waiting refl refl kept.waits;
        marks = marked;
        notices = sym (append-nil _);
        served = kept.tracks.served;
        charges = kept.tracks.charges;
        refusals = kept.tracks.refusals;
        retries = refl;
        out = kept.tracks.out;
        stands = kept.stands;
      } in
      IsHolding-follows terms old _ shelf after_answering kept follows new enters.events enters.limit (subst (IsWithin new.limit) enters.events (IsWithin-whole new.limit new.events enters.within)) enters.room
