-- What the end of a session says of its source.
use Rattle.std.proofs.Common.{◌≡◌, ◌≤◌, ◌∙◌, ℕ, Bool, true, false, List, [], ◌++◌, ◌⊎◌, Option, Some, None, flat_map, length, inl, inr, ⊎_elim, refl, ap, sym, subst, append-nil, append_assoc}
use Rattle.std.specs.Io.KnownBytes.{Consumes, IsAtEnd, prepend_known}
use Rattle.ci_io.specs.Causes.{Rose}
use Rattle.ci_io.specs.Lines.{HasNoFeed}
use Rattle.ci_io.specs.Reading.{Reading, BeginsTooLong, ahead}
use Rattle.ci_journal.specs.declared.event.Event.{Event}
use Rattle.ci_journal.specs.declared.request.Request.{Request}
use Rattle.ci_journal.specs.Folds.{requests_in}
use Rattle.ci_journal.specs.Tells.{last_of}
use Rattle.ci_holdings.specs.Core.{Core}
use Rattle.ci_server.specs.declared.status.Status.{Status}
use Rattle.ci_server.specs.declared.status.Status.TheVariants.{Done, Usage, ReadFault, WriteFault, JournalFull, TooManyDocuments, OutOfMemory, EndlessLine}
use Rattle.ci_server.specs.Progress.{Ends, EndsUnread, Progress}
use Rattle.ci_server.specs.Requests.{Reads, Feeds, requests, with_feed}
use Rattle.ci_server.specs.Session.{AsksAll, AsksBefore, AsksTaken, ComesTooLong, EndsBetween, EndsByQuit, TakesLines}
use Rattle.ci_server.proofs.ProgressLemmas.{asked-turns}

AsksAll-quit : (all left : Option (List ℕ)) (served : List Request) (journal : List Event) → requests_in journal ≡ served → Reads all left served true → AsksAll all journal
AsksAll-quit None left served journal asks reads = tt
AsksAll-quit (Some all) None served journal asks reads = absurd reads
AsksAll-quit (Some all) (Some rest) served journal asks reads = reads ∙ append-nil served ∙ sym asks

AsksAll-over : (all left : Option (List ℕ)) (served : List Request) (journal : List Event) → requests_in journal ≡ served → Reads all left served false → IsAtEnd left → AsksAll all journal
AsksAll-over None left served journal asks reads ended = tt
AsksAll-over (Some all) None served journal asks reads ended = absurd reads
AsksAll-over (Some all) (Some rest) served journal asks reads ended = reads ∙ ap (λ r. served ++ requests r) ended ∙ append-nil served ∙ sym asks

IsAtEnd-held : (held : List ℕ) (left : Option (List ℕ)) → held ≡ [] → IsAtEnd (prepend_known held left) → IsAtEnd left
IsAtEnd-held held None none ended = tt
IsAtEnd-held held (Some xs) none ended = let e : [] ++ xs ≡ [] = ap (λ h. h ++ xs) (sym none) ∙ ended in e

-- the lines that were fed, and then the bytes that are held and those that are left
takes_fed : (all : List ℕ) (held left : List ℕ) (served : List Request) (journal : List Event) → requests_in journal ≡ served → Feeds (Some all) (Some (held ++ left)) served → TakesLines all left journal
takes_fed all held left served journal asks feeds = record {
  raws = feeds.raws;
  begun = held;
  whole = feeds.whole ∙ sym (append_assoc (flat_map with_feed feeds.raws) held left);
  each = feeds.each;
  asked_are = asks ∙ feeds.requests_are;
}

AsksBefore-fed : (all : Option (List ℕ)) (held : List ℕ) (left : Option (List ℕ)) (served : List Request) (journal : List Event) → length held ≤ 65537 → requests_in journal ≡ served → Feeds all (prepend_known held left) served → AsksBefore all left journal
unfolding takes_fed
AsksBefore-fed None held left served journal short asks feeds = tt
AsksBefore-fed (Some all) held None served journal short asks feeds = absurd feeds
AsksBefore-fed (Some all) held (Some left) served journal short asks feeds = (takes_fed all held left served journal asks feeds, short)

-- and where the beginning of one more line was lost
AsksTaken-fed : (all before : Option (List ℕ)) (lost held : List ℕ) (left : Option (List ℕ)) (served : List Request) (journal : List Event) → requests_in journal ≡ served → Feeds all before served
    → Consumes before (prepend_known held left) lost → HasNoFeed (lost ++ held) → AsksTaken all left journal
unfolding takes_fed
AsksTaken-fed None before lost held left served journal asks feeds consumes unfed = tt
AsksTaken-fed (Some all) None lost held left served journal asks feeds consumes unfed = absurd feeds
AsksTaken-fed (Some all) (Some mid) lost held None served journal asks feeds consumes unfed = absurd consumes
AsksTaken-fed (Some all) (Some mid) lost held (Some left) served journal asks feeds consumes unfed =
    let same : mid ≡ (lost ++ held) ++ left = consumes ∙ sym (append_assoc lost held left) in
    (takes_fed all (lost ++ held) left served journal asks (subst (λ m. Feeds (Some all) (Some m) served) same feeds), unfed)

-- and that line has more bytes than a line may have
ComesTooLong-fed : (all before : Option (List ℕ)) (lost held : List ℕ) (left : Option (List ℕ)) (served : List Request) (journal : List Event) → requests_in journal ≡ served → Feeds all before served
    → Consumes before (prepend_known held left) lost → HasNoFeed (lost ++ held) → BeginsTooLong before → ComesTooLong all left journal
unfolding takes_fed
ComesTooLong-fed None before lost held left served journal asks feeds consumes unfed long = tt
ComesTooLong-fed (Some all) None lost held left served journal asks feeds consumes unfed long = absurd feeds
ComesTooLong-fed (Some all) (Some mid) lost held None served journal asks feeds consumes unfed long = absurd consumes
ComesTooLong-fed (Some all) (Some mid) lost held (Some left) served journal asks feeds consumes unfed long =
    let same : mid ≡ (lost ++ held) ++ left = consumes ∙ sym (append_assoc lost held left) in
    (takes_fed all (lost ++ held) left served journal asks (subst (λ m. Feeds (Some all) (Some m) served) same feeds), unfed, subst (λ m. BeginsTooLong (Some m)) same long)

-- a reader that has read nothing has all the source's bytes ahead
pub ahead-fresh : (left : Option (List ℕ)) → prepend_known [] left ≡ left
ahead-fresh None = refl
ahead-fresh (Some xs) = refl

module _ (first : Reading) (start : Core) (now : Reading) (core : Core) where
  pub all_lines : Ends first start now core Done → AsksAll (ahead first) core.sheet.events
  all_lines ends =
      ⊎_elim (λ progress. AsksAll-quit (ahead first) (ahead now) progress.served core.sheet.events (asked-turns start.terms core.sheet.events progress.served progress.turns) progress.reads)
      (λ over. AsksAll-over (ahead first) (ahead over.before) over.progress.served core.sheet.events (asked-turns start.terms core.sheet.events over.progress.served over.progress.turns) over.progress.reads over.over.ended_before) ends

  pub done : Ends first start now core Done → IsAtEnd now.left ⊎ EndsByQuit core.sheet.events
  done ends =
      ⊎_elim (λ progress. inr (ap last_of (asked-turns start.terms core.sheet.events progress.served progress.turns) ∙ progress.last refl))
      (λ over. inl (IsAtEnd-held now.held now.left over.over.held_after over.over.ended_after)) ends

  stays_open : (at : Reading) → Progress first start at core false → EndsByQuit core.sheet.events → ⊥
  stays_open at progress quits = progress.goes_on refl (sym (ap last_of (asked-turns start.terms core.sheet.events progress.served progress.turns)) ∙ quits)

  pub ends_at_quit : (status : Status) → Ends first start now core status → EndsByQuit core.sheet.events → EndsBetween status → status ≡ Done
  ends_at_quit Done ends quits between = refl
  ends_at_quit ReadFault ends quits between = absurd (stays_open ends.0 ends.1.progress quits)
  ends_at_quit EndlessLine ends quits between = absurd (stays_open ends.0 ends.1.progress quits)
  ends_at_quit Usage ends quits between = absurd between
  ends_at_quit WriteFault ends quits between = absurd between
  ends_at_quit (JournalFull used more) ends quits between = absurd between
  ends_at_quit TooManyDocuments ends quits between = absurd between
  ends_at_quit OutOfMemory ends quits between = absurd between

  pub left_at_quit : length now.held ≤ 65537 → Ends first start now core Done → IsAtEnd now.left ⊎ AsksBefore (ahead first) now.left core.sheet.events
  left_at_quit short ends =
      ⊎_elim (λ progress. by progress now.ended refl)
      (λ over. inl (IsAtEnd-held now.held now.left over.over.held_after over.over.ended_after)) ends
    where
      by : Progress first start now core true → (ended : Bool) → now.ended ≡ ended → IsAtEnd now.left ⊎ AsksBefore (ahead first) now.left core.sheet.events
      by progress true is = inl (progress.at_end refl is)
      by progress false is = inr (AsksBefore-fed (ahead first) now.held now.left progress.served core.sheet.events short (asked-turns start.terms core.sheet.events progress.served progress.turns) (progress.feeds is))

  taken : (before : Reading) → EndsUnread first start before now core → AsksTaken (ahead first) now.left core.sheet.events
  taken before ends =
      AsksTaken-fed (ahead first) (ahead before) ends.unread.loses.lost now.held now.left ends.progress.served core.sheet.events (asked-turns start.terms core.sheet.events ends.progress.served ends.progress.turns)
      (ends.progress.feeds ends.unread.before_end) ends.unread.loses.ahead ends.unread.begun

  pub taken_at_fault : Ends first start now core ReadFault → AsksTaken (ahead first) now.left core.sheet.events
  taken_at_fault ends = taken ends.0 ends.1

  pub taken_at_long : Ends first start now core EndlessLine → AsksTaken (ahead first) now.left core.sheet.events
  taken_at_long ends = taken ends.0 ends.1

  pub endless : Ends first start now core EndlessLine → ComesTooLong (ahead first) now.left core.sheet.events
  endless ends =
      let before = ends.0 in
      let progress = ends.1.progress in
      let unread = ends.1.unread in
      ComesTooLong-fed (ahead first) (ahead before) unread.loses.lost now.held now.left progress.served core.sheet.events (asked-turns start.terms core.sheet.events progress.served progress.turns)
      (progress.feeds unread.before_end) unread.loses.ahead unread.begun ends.2

  pub read_fault : Ends first start now core ReadFault → Rose first.faults now.faults
  read_fault ends = subst (λ n. Rose n now.faults) ends.1.progress.faults ends.2
