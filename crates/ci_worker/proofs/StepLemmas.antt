-- One step of a session: what it adds, and what it keeps.
use Rattle.std.proofs.Common.{arith, ◌≡◌, ◌≤◌, ◌<◌, ◌+◌, ◌∙◌, ℕ, max, Bool, true, false, List, [], ◌∷◌, ◌++◌, All, length, bytes_eq, Some, None, option_to_list, if◌then◌else◌, inl, inr, refl, ap, sym, subst, append-nil, append_assoc}
use Rattle.std.proofs.lemmas.List.Elements.{All-weaker}
use Rattle.std.proofs.lemmas.List.{length_push}
use Rattle.std.proofs.lemmas.Bool.{cases_lt}
use Rattle.std.proofs.lemmas.List.Sums.{sum_by-append}
use Rattle.ci_base.specs.declared.numbers.Seq.{Seq}
use Rattle.ci_change.specs.declared.batch.Batch.{Batch}
use Rattle.ci_change.specs.declared.notice.What.{What}
use Rattle.ci_change.specs.Pending.{latest_number, served_number}
use Rattle.ci_change.proofs.UnservedLemmas.{latest_number-push, served_number-push}
use Rattle.ci_journal.specs.declared.event.Event.{Event}
use Rattle.ci_journal.specs.Bytes.{event_bytes, journal_bytes}
use Rattle.ci_journal.specs.Filings.{Filings, fates, filings, out}
use Rattle.ci_journal.specs.Folds.{is_numbered, new_notices, next_notice, notices, numbered_paths}
use Rattle.ci_journal.specs.Served.{number_of, numbers_of, served_numbers}
use Rattle.ci_journal.specs.Tells.{Filing, tells}
use Rattle.ci_journal.specs.Tells.Filed.{One}
use Rattle.ci_journal.specs.Terms.{Terms}
use Rattle.ci_journal.proofs.FoldsLemmas.{file_where, filings-push, new_notices-push, notices-push, numbers_of-push}
use Rattle.ci_book.specs.Changes.{noted}
use Rattle.ci_holdings.specs.Core.{Core}
use Rattle.ci_core.specs.Fixed.{KeepsFixed}
use Rattle.ci_holdings.specs.Steps.{IsUnrefused, Makes, Rests, Told, numbered_behind, step_in}
use Rattle.ci_core.proofs.CatalogLemmas.{numbered_paths-append}
use Rattle.ci_holdings.proofs.HaltsLemmas.{alone, is_failed}
use Rattle.ci_worker.specs.Filtering.{room_left}
use Rattle.ci_worker.specs.Stops.{AreBelow, AreBelowNext, IsAt, IsSound, Remains}

pub Remains-refl : (core : Core) → Remains core core
Remains-refl core = record { limit = refl; told = record { terms = refl; most = refl }; fixed = λ fixed has. has }

pub Remains-trans : (a b c : Core) → Remains a b → Remains b c → Remains a c
Remains-trans a b c one other = record {
  limit = other.limit ∙ one.limit;
  told = record { terms = other.told.terms ∙ one.told.terms; most = other.told.most ∙ one.told.most };
  fixed = λ fixed has. other.fixed fixed (one.fixed fixed has);
}

-- the event was added, and the catalogue is sound as before
abbrev pub IsStep : Core → Core → Event → Type 0
IsStep a b e = IsAt a b (e ∷ [])

pub IsAt-none : (old : Core) → IsSound old → IsAt old old []
IsAt-none old sound = record { events = sym (append-nil old.sheet.events); remains = Remains-refl old; sound = sound }

pub IsAt-then : (old a b : Core) (steps more : List Event) → IsAt old a steps → IsAt a b more → IsAt old b (steps ++ more)
IsAt-then old a b steps more at next = record {
  events = next.events ∙ ap (λ es. es ++ more) at.events ∙ append_assoc old.sheet.events steps more;
  remains = Remains-trans old a b at.remains next.remains;
  sound = next.sound;
}

-- nothing was added
pub IsAt-rests : (old new : Core) → IsSound old → Rests old new → IsUnrefused old new → KeepsFixed old new → IsAt old new []
IsAt-rests old new sound rests unrefused keeps = record {
  events = rests.stays.events ∙ sym (append-nil old.sheet.events);
  remains = record { limit = rests.stays.limit; told = rests.told; fixed = keeps };
  sound = record {
    unrefused = unrefused.after;
    numbered = rests.numbered ∙ sound.numbered ∙ ap (numbered_paths old.terms) (sym rests.stays.events) ∙ ap (λ (t : Terms). numbered_paths t new.sheet.events) (sym rests.told.terms);
    room = omega (arith, sound.room, ap length rests.numbered, rests.told.most);
    below = subst (λ (t : Terms). AreBelowNext t new.sheet.events) (sym rests.told.terms) (subst (AreBelowNext old.terms) (sym rests.stays.events) sound.below);
    plain = ap (λ (t : Terms). t.in_lists) rests.told.terms ∙ sound.plain;
  };
}

-- events that were added take room
pub less-behind : (old new : Core) (more : List Event) → new.sheet.events ≡ old.sheet.events ++ more → new.sheet.limit ≡ old.sheet.limit → room_left new ≤ room_left old
less-behind old new more added limit =
    let bytes : journal_bytes new.sheet.events ≡ journal_bytes (old.sheet.events ++ more) = ap journal_bytes added in
    let count : journal_bytes (old.sheet.events ++ more) ≡ journal_bytes old.sheet.events + journal_bytes more = sum_by-append (λ (e : Event). event_bytes e.what) old.sheet.events more in
    omega (arith, count, bytes, limit)

-- ---- the next notice's number stays above all others

-- what is below a number is below a later one
AreBelow-later : (low high : ℕ) → low ≤ high → (batches : List Batch) → AreBelow low batches → AreBelow high batches
AreBelow-later low high up batches all =
    All-weaker (λ (b : Batch). All (λ (d : List ℕ × Seq). d.1.0 < low) b.docs) (λ (b : Batch). All (λ (d : List ℕ × Seq). d.1.0 < high) b.docs)
    (λ b below. All-weaker (λ (d : List ℕ × Seq). d.1.0 < low) (λ (d : List ℕ × Seq). d.1.0 < high) (λ d under. omega (arith, up, under)) b.docs below) batches all

pub greater-below : (test : Bool) (m n limit : ℕ) → m < limit → n < limit → (if test then max m n else m) < limit
greater-below true m n limit low high = omega (arith, low, high)
greater-below false m n limit low high = low

module _ (terms : Terms) (journal : List Event) (e : Event) where
  -- an event that is no notice
  module _ (no_notice : (tells e.what).notice ≡ None) where
    same_notices : notices terms (journal ++ e ∷ []) ≡ notices terms journal
    same_notices = notices-push terms journal e ∙ ap (λ o. notices terms journal ++ option_to_list o) no_notice ∙ append-nil (notices terms journal)

    same_new : new_notices (journal ++ e ∷ []) ≡ new_notices journal
    same_new = new_notices-push journal e ∙ ap (λ o. new_notices journal ++ option_to_list o) no_notice ∙ append-nil (new_notices journal)

    pub same_next : next_notice terms (journal ++ e ∷ []) ≡ next_notice terms journal
    same_next = ap (λ ns. terms.beginning.next + length ns) same_new

    pub latest-same : AreBelowNext terms journal → (path : List ℕ) → latest_number (notices terms (journal ++ e ∷ [])) path < next_notice terms (journal ++ e ∷ [])
    latest-same below path =
        subst (λ ns. latest_number ns path < next_notice terms (journal ++ e ∷ [])) (sym same_notices)
        (subst (λ n. latest_number (notices terms journal) path < n) (sym same_next) (below.latest path))

    -- that leaves the batches that are out as they are
    out-same : out (journal ++ e ∷ []) ≡ out journal → AreBelowNext terms journal → AreBelow (next_notice terms (journal ++ e ∷ [])) (out (journal ++ e ∷ []))
    out-same same below = subst (λ n. AreBelow n (out (journal ++ e ∷ []))) (sym same_next) (subst (AreBelow (next_notice terms journal)) (sym same) below.out)

    -- and files nothing
    pub below-quiet : (tells e.what).filed ≡ None → AreBelowNext terms journal → AreBelowNext terms (journal ++ e ∷ [])
    below-quiet no_filing below =
        let fates_now : fates (journal ++ e ∷ []) ≡ fates journal = ap (λ (f : Filings). f.filed) (filings-push journal e ∙ ap (file_where (filings journal)) no_filing) in
        let same : served_numbers terms (journal ++ e ∷ []) ≡ served_numbers terms journal = ap (λ fs. terms.beginning.numbers ++ numbers_of fs) fates_now in
        record {
          latest = latest-same below;
          served = λ path. subst (λ ns. served_number ns path < next_notice terms (journal ++ e ∷ [])) (sym same)
              (subst (λ n. served_number (served_numbers terms journal) path < n) (sym same_next) (below.served path));
          out = out-same (ap (λ (f : Filings). f.out) (filings-push journal e ∙ ap (file_where (filings journal)) no_filing)) below;
        }

    -- or serves a path under a number below the next
    pub below-filed : (f : Filing) (path : List ℕ) (seq : Seq) → (tells e.what).filed ≡ Some (One f) → number_of f ≡ Some (path, seq) → seq.0 < next_notice terms journal → AreBelowNext terms journal → AreBelowNext terms (journal ++ e ∷ [])
    below-filed f path seq files served low below =
        let fates_now : fates (journal ++ e ∷ []) ≡ fates journal ++ f ∷ [] = ap (λ (fs : Filings). fs.filed) (filings-push journal e ∙ ap (file_where (filings journal)) files) in
        let numbers : numbers_of (fates (journal ++ e ∷ [])) ≡ numbers_of (fates journal) ++ (path, seq) ∷ [] =
        ap numbers_of fates_now ∙ numbers_of-push (fates journal) f ∙ ap (λ o. numbers_of (fates journal) ++ option_to_list o) served in
        let all : served_numbers terms (journal ++ e ∷ []) ≡ served_numbers terms journal ++ (path, seq) ∷ [] =
        ap (λ ns. terms.beginning.numbers ++ ns) numbers ∙ sym (append_assoc terms.beginning.numbers (numbers_of (fates journal)) ((path, seq) ∷ [])) in
        record {
          latest = latest-same below;
          served = λ other. subst (λ ns. served_number ns other < next_notice terms (journal ++ e ∷ [])) (sym all)
              (subst (λ n. served_number (served_numbers terms journal ++ (path, seq) ∷ []) other < n) (sym same_next)
              (subst (λ n. n < next_notice terms journal) (sym (served_number-push (served_numbers terms journal) path seq other))
              (greater-below (bytes_eq path other) (served_number (served_numbers terms journal) other) seq.0 (next_notice terms journal) (below.served other) low)));
          out = out-same (ap (λ (fs : Filings). fs.out) (filings-push journal e ∙ ap (file_where (filings journal)) files)) below;
        }

-- a notice has the next number
module _ (terms : Terms) (journal : List Event) (path : List ℕ) (seq : Seq) (what : What) (next : seq.0 ≡ next_notice terms journal) where
  pub next-noted : next_notice terms (journal ++ noted 0 path seq.0 what ∷ []) ≡ seq.0 + 1
  next-noted =
      let count : length (new_notices (journal ++ noted 0 path seq.0 what ∷ [])) ≡ length (new_notices journal) + 1 =
      ap length (new_notices-push journal (noted 0 path seq.0 what)) ∙ length_push (new_notices journal) (record { path = path; seq = seq; what = what }) in
      omega (arith, count, next)

  pub below-noted : AreBelowNext terms journal → AreBelowNext terms (journal ++ noted 0 path seq.0 what ∷ [])
  below-noted below =
      let e = noted 0 path seq.0 what in
      let all : notices terms (journal ++ e ∷ []) ≡ notices terms journal ++ record { path = path; seq = seq; what = what } ∷ [] = notices-push terms journal e in
      let fates_now : fates (journal ++ e ∷ []) ≡ fates journal = ap (λ (f : Filings). f.filed) (filings-push journal e) in
      let same : served_numbers terms (journal ++ e ∷ []) ≡ served_numbers terms journal = ap (λ fs. terms.beginning.numbers ++ numbers_of fs) fates_now in
      record {
        latest = λ other. subst (λ ns. latest_number ns other < next_notice terms (journal ++ e ∷ [])) (sym all)
            (subst (λ n. latest_number (notices terms journal ++ record { path = path; seq = seq; what = what } ∷ []) other < n) (sym next-noted)
            (subst (λ n. n < seq.0 + 1) (sym (latest_number-push (notices terms journal) (record { path = path; seq = seq; what = what }) other))
            (greater-below (bytes_eq path other) (latest_number (notices terms journal) other) seq.0 (seq.0 + 1) (omega (arith, next, below.latest other)) (omega arith))));
        served = λ other. subst (λ ns. served_number ns other < next_notice terms (journal ++ e ∷ [])) (sym same)
            (subst (λ n. served_number (served_numbers terms journal) other < n) (sym next-noted) (omega (arith, next, below.served other)));
        out = AreBelow-later (next_notice terms journal) (next_notice terms (journal ++ e ∷ [])) (omega (arith, next-noted, next)) (out (journal ++ e ∷ []))
            (subst (AreBelow (next_notice terms journal)) (sym (ap (λ (f : Filings). f.out) (filings-push journal e))) below.out);
      }

-- ---- a step that added an event

-- no step but a failed start has more events than the one that names it
pub one_event : (core : Core) (e : Event) → IsSound core → is_failed e.what ≡ false → step_in core e ≡ e ∷ []
one_event core e sound other = alone core.terms core.sheet.events e.by e.what sound.plain other

-- events that were added, so that the paths are numbered that they note
module _ (a b : Core) (es : List Event) (sound : IsSound a) (added : b.sheet.events ≡ a.sheet.events ++ es) (limit : b.sheet.limit ≡ a.sheet.limit) (told : Told a b)
    (numbered_now : b.numbered ≡ numbered_behind a.numbered es) (unrefused : b.refusal ≡ None) (keeps : KeepsFixed a b) where
  pub at-any : length b.numbered ≤ b.most → AreBelowNext a.terms (a.sheet.events ++ es) → IsAt a b es
  at-any room below = record {
    events = added;
    remains = record { limit = limit; told = told; fixed = keeps };
    sound = record {
      unrefused = unrefused;
      numbered = numbered_now ∙ ap (λ ns. numbered_behind ns es) sound.numbered ∙ sym (numbered_paths-append a.terms a.sheet.events es)
          ∙ ap (numbered_paths a.terms) (sym added) ∙ ap (λ (t : Terms). numbered_paths t b.sheet.events) (sym told.terms);
      room = room;
      below = subst (λ (t : Terms). AreBelowNext t b.sheet.events) (sym told.terms) (subst (AreBelowNext a.terms) (sym added) below);
      plain = ap (λ (t : Terms). t.in_lists) told.terms ∙ sound.plain;
    };
  }

  -- where they note none
  pub at-silent : numbered_behind a.numbered es ≡ a.numbered → AreBelowNext a.terms (a.sheet.events ++ es) → IsAt a b es
  at-silent silent below =
      let same : b.numbered ≡ a.numbered = numbered_now ∙ silent in
      at-any (omega (arith, sound.room, ap length same, told.most)) below

module _ (a b : Core) (e : Event) (sound : IsSound a) (other : is_failed e.what ≡ false) (makes : Makes a b e) (unrefused : IsUnrefused a b) (keeps : KeepsFixed a b) where
  added : b.sheet.events ≡ a.sheet.events ++ e ∷ []
  added = makes.adds.events ∙ ap (λ es. a.sheet.events ++ es) (one_event a e sound other)

  numbered_now : b.numbered ≡ numbered_behind a.numbered (e ∷ [])
  numbered_now = makes.numbered ∙ ap (numbered_behind a.numbered) (one_event a e sound other)

  step-any : length b.numbered ≤ b.most → AreBelowNext a.terms (a.sheet.events ++ e ∷ []) → IsStep a b e
  step-any room below = at-any a b (e ∷ []) sound added makes.adds.limit makes.told numbered_now unrefused.after keeps room below

  -- an event that is no notice numbers nothing
  module _ (no_notice : (tells e.what).notice ≡ None) where
    same_room : length b.numbered ≤ b.most
    same_room =
        let same : b.numbered ≡ a.numbered = numbered_now ∙ rw no_notice refl in
        omega (arith, sound.room, ap length same, makes.told.most)

    -- and the numbers stay below the next
    pub step-below : AreBelowNext a.terms (a.sheet.events ++ e ∷ []) → IsStep a b e
    step-below below = step-any same_room below

    -- and nothing is filed
    pub step-quiet : (tells e.what).filed ≡ None → IsStep a b e
    step-quiet no_filing = step-any same_room (below-quiet a.terms a.sheet.events e no_notice no_filing sound.below)

    -- or a path is served under a notice that was noted
    pub step-filed : (f : Filing) (path : List ℕ) (seq : Seq) → (tells e.what).filed ≡ Some (One f) → number_of f ≡ Some (path, seq) → seq.0 < next_notice a.terms a.sheet.events → IsStep a b e
    step-filed f path seq files served low = step-any same_room (below-filed a.terms a.sheet.events e no_notice f path seq files served low sound.below)

-- a notice has the next number, and there was room for its path
module _ (a b : Core) (path : List ℕ) (seq : Seq) (what : What) (sound : IsSound a) (next : seq.0 ≡ next_notice a.terms a.sheet.events)
    (makes : Makes a b (noted 0 path seq.0 what)) (unrefused : IsUnrefused a b) (keeps : KeepsFixed a b)
    (not_crowded : a.refusal ≡ None → is_numbered a.numbered path ≡ false → a.most ≤ length a.numbered → ⊥) where
  room-noted : (known : Bool) → is_numbered a.numbered path ≡ known → length b.numbered ≤ b.most
  room-noted true known =
      let same : b.numbered ≡ a.numbered = makes.numbered ∙ rw known refl in
      omega (arith, sound.room, ap length same, makes.told.most)
  room-noted false known =
      let grown : b.numbered ≡ a.numbered ++ path ∷ [] = makes.numbered ∙ rw known refl in
      let count : length b.numbered ≡ length a.numbered + 1 = ap length grown ∙ length_push a.numbered path in
      elim (cases_lt (length a.numbered) a.most) [
        | inl below ↦ omega (arith, count, makes.told.most)
        | inr full ↦ absurd (not_crowded sound.unrefused known full)
      ]

  pub step-noted : IsStep a b (noted 0 path seq.0 what)
  step-noted =
      step-any a b (noted 0 path seq.0 what) sound refl makes unrefused keeps (room-noted (is_numbered a.numbered path) refl)
      (below-noted a.terms a.sheet.events path seq what next sound.below)
