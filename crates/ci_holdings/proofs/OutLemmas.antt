-- The batches that are out in a run: their numbers ascend, and their documents were noted.
use Rattle.std.proofs.Common.{arith, ◌≡◌, ◌∙◌, ◌==◌, ℕ, ◌+◌, ◌≤◌, ◌<◌, Bool, IsTrue, true, false, not, List, [], ◌∷◌, ◌++◌, All, Contains, filter, flat_map, length, take, option_to_list, ⊎_elim, refl, ap, sym, subst, append-nil, length-append}
use Rattle.std.proofs.lemmas.Bool.Decides.{nat_tests}
use Rattle.std.proofs.lemmas.List.Elements.{All-contains, All-filter, All-map, All-push, All-take, All-weaker}
use Rattle.std.specs.List.{AllByRecursion}
use Rattle.ci_base.specs.declared.numbers.Seq.{Seq}
use Rattle.ci_change.specs.declared.batch.Batch.{Batch}
use Rattle.ci_change.specs.declared.notice.Notice.{Notice}
use Rattle.ci_change.specs.Charges.{was_reached}
use Rattle.ci_change.specs.HandedIn.{was_noted}
use Rattle.ci_change.specs.Pending.{docs_of, is_free, is_unserved, latest_number}
use Rattle.ci_change.proofs.UnservedLemmas.{unserved-above, unserved-is_latest}
use Rattle.ci_keys.proofs.OneForm.{Contains-cons_cases, none_in_empty}
use Rattle.ci_journal.specs.declared.event.Event.{Event}
use Rattle.ci_journal.specs.declared.event.Happened.{Happened}
use Rattle.ci_journal.specs.declared.event.Happened.TheVariants.{Asked, Noted, Put, Erased, Started, StartFailed, DaemonLost, Begun, BatchDone, BatchDied, Returned, Shadowed, MasterBegun, MasterStep, MasterEnded, Opened, Answered, Said}
use Rattle.ci_journal.specs.Filings.{Filings, batches, docs_out, filings, out, without_number}
use Rattle.ci_journal.specs.Folds.{notices}
use Rattle.ci_journal.specs.Pending.{free, is_unfiltered, pending, unserved_notices}
use Rattle.ci_journal.specs.Served.{served_numbers}
use Rattle.ci_journal.specs.Step.{May, Run, Chain}
use Rattle.ci_journal.specs.Step.Chain.{NoEvent, Next}
use Rattle.ci_journal.specs.Tells.{tells}
use Rattle.ci_journal.specs.Terms.{Terms}
use Rattle.ci_journal.proofs.ChainLemmas.{Chain-run}
use Rattle.ci_journal.proofs.FoldsLemmas.{batch_of, batches-push, file_where, filings-push, notices-push}
use Rattle.ci_holdings.proofs.ReachedLemmas.{All-passes, noted-reached, reached_later}

-- each batch has a number below those behind it, and all are at most so many
abbrev Ascend : ℕ → List Batch → Type 0
Ascend most [] = Unit {0}
Ascend most (b ∷ bs) = AllByRecursion (λ (c : Batch). b.number < c.number) bs × (b.number ≤ most) × Ascend most bs

Ascend-more : (most more : ℕ) (bs : List Batch) → most ≤ more → Ascend most bs → Ascend more bs
Ascend-more most more [] within ascend = tt
Ascend-more most more (b ∷ bs) within ascend = (ascend.0, omega (arith, within, ascend.1), Ascend-more most more bs within ascend.2)

above-push : (n : ℕ) (bs : List Batch) (b : Batch) → AllByRecursion (λ (c : Batch). n < c.number) bs → n < b.number → AllByRecursion (λ (c : Batch). n < c.number) (bs ++ b ∷ [])
above-push n [] b all above = (above, tt)
above-push n (c ∷ bs) b all above = (all.0, above-push n bs b all.1 above)

Ascend-push : (most : ℕ) (bs : List Batch) (b : Batch) → Ascend most bs → b.number ≡ most + 1 → Ascend (most + 1) (bs ++ b ∷ [])
Ascend-push most [] b ascend next = (tt, omega (arith, next), tt)
Ascend-push most (c ∷ bs) b ascend next =
    (above-push c.number bs b ascend.0 (omega (arith, ascend.1, next)), omega (arith, ascend.1), Ascend-push most bs b ascend.2 next)

above-filter : (n : ℕ) (test : Batch → Bool) (bs : List Batch) → AllByRecursion (λ (c : Batch). n < c.number) bs → AllByRecursion (λ (c : Batch). n < c.number) (filter test bs)
above-filter n test [] all = tt
above-filter n test (c ∷ bs) all = by (test c) refl (above-filter n test bs all.1)
  where
    by : (b : Bool) → test c ≡ b → AllByRecursion (λ (c : Batch). n < c.number) (filter test bs) → AllByRecursion (λ (c : Batch). n < c.number) (filter test (c ∷ bs))
    by true passes rest = rw passes (all.0, rest)
    by false fails rest = rw fails rest

Ascend-filter : (most : ℕ) (test : Batch → Bool) (bs : List Batch) → Ascend most bs → Ascend most (filter test bs)
Ascend-filter most test [] ascend = tt
Ascend-filter most test (b ∷ bs) ascend = by (test b) refl (Ascend-filter most test bs ascend.2)
  where
    by : (t : Bool) → test b ≡ t → Ascend most (filter test bs) → Ascend most (filter test (b ∷ bs))
    by true passes rest = rw passes (above-filter b.number test bs ascend.0, ascend.1, rest)
    by false fails rest = rw fails rest

-- ---- one batch has a number

none_above : (n : ℕ) (bs : List Batch) → AllByRecursion (λ (c : Batch). n < c.number) bs → filter (λ (b : Batch). b.number == n) bs ≡ []
none_above n [] all = refl
none_above n (c ∷ bs) all = let apart : (c.number == n) ≡ false = grind (arith, nat_tests, all.0) in rw apart (none_above n bs all.1)

above_of : (n : ℕ) (bs : List Batch) (b : Batch) → AllByRecursion (λ (c : Batch). n < c.number) bs → Contains bs b → n < b.number
above_of n [] b all here = absurd (none_in_empty b here)
above_of n (c ∷ bs) b all here = ⊎_elim (λ (first : c ≡ b). subst (λ (x : Batch). n < x.number) first all.0) (λ later. above_of n bs b all.1 later) (Contains-cons_cases c bs b here)

-- the one batch that has the number of one
pub only_number : (most : ℕ) (bs : List Batch) (b : Batch) → Ascend most bs → Contains bs b → filter (λ (c : Batch). c.number == b.number) bs ≡ b ∷ []
only_number most [] b ascend here = absurd (none_in_empty b here)
only_number most (c ∷ bs) b ascend here =
    ⊎_elim
    (λ (first : c ≡ b). subst (λ (x : Batch). filter (λ (d : Batch). d.number == x.number) (c ∷ bs) ≡ x ∷ []) first (own c bs (none_above c.number bs ascend.0)))
    (λ later. let above = above_of c.number bs b ascend.0 later in let apart : (c.number == b.number) ≡ false = grind (arith, nat_tests, above) in rw apart (only_number most bs b ascend.2 later))
    (Contains-cons_cases c bs b here)
  where
    own : (c : Batch) (bs : List Batch) → filter (λ (d : Batch). d.number == c.number) bs ≡ [] → filter (λ (d : Batch). d.number == c.number) (c ∷ bs) ≡ c ∷ []
    own c bs none = let same : (c.number == c.number) ≡ true = grind (arith, nat_tests) in rw same (ap (λ ds. c ∷ ds) none)

-- without the number that comes next nothing is taken away
pub without_next : (most : ℕ) (bs : List Batch) (n : ℕ) → Ascend most bs → most < n → without_number bs n ≡ bs
without_next most [] n ascend above = refl
without_next most (b ∷ bs) n ascend above =
    let apart : (b.number == n) ≡ false = grind (arith, nat_tests, ascend.1, above) in rw apart (ap (λ ds. b ∷ ds) (without_next most bs n ascend.2 above))

-- a batch with the number that comes next, and that is taken away again
pub without_last : (most : ℕ) (bs : List Batch) (last : Batch) → Ascend most bs → most < last.number → without_number (bs ++ last ∷ []) last.number ≡ bs
without_last most [] last ascend above =
    let same : (last.number == last.number) ≡ true = grind (arith, nat_tests) in rw same refl
without_last most (b ∷ bs) last ascend above =
    let apart : (b.number == last.number) ≡ false = grind (arith, nat_tests, ascend.1, above) in rw apart (ap (λ ds. b ∷ ds) (without_last most bs last ascend.2 above))

-- ---- along a run

pub out-push : (journal : List Event) (e : Event) → out (journal ++ e ∷ []) ≡ (file_where (filings journal) (tells e.what).filed).out
out-push journal e = ap (λ (f : Filings). f.out) (filings-push journal e)

ascends : (terms : Terms) (journal : List Event) (by : ℕ) (what : Happened) → May terms journal by what → Ascend (length (batches journal)) (out journal)
    → Ascend (length (batches journal ++ batch_of (tells what).filed)) (file_where (filings journal) (tells what).filed).out
ascends terms journal by (Asked id request) may ascend = rw (append-nil (batches journal)) ascend
ascends terms journal by (Noted notice) may ascend = rw (append-nil (batches journal)) ascend
ascends terms journal by (Put path seq transcript) may ascend = rw (append-nil (batches journal)) ascend
ascends terms journal by (Erased path seq) may ascend = rw (append-nil (batches journal)) ascend
ascends terms journal by Started may ascend = rw (append-nil (batches journal)) ascend
ascends terms journal by StartFailed may ascend = rw (append-nil (batches journal)) ascend
ascends terms journal by DaemonLost may ascend = rw (append-nil (batches journal)) ascend
ascends terms journal by (Begun batch) may ascend =
    subst (λ n. Ascend n (out journal ++ batch ∷ [])) (sym (length-append (batches journal) (batch ∷ []))) (Ascend-push (length (batches journal)) (out journal) batch ascend may.next)
ascends terms journal by (BatchDone number outcomes) may ascend = rw (append-nil (batches journal)) (Ascend-filter (length (batches journal)) (λ (b : Batch). not (b.number == number)) (out journal) ascend)
ascends terms journal by (BatchDied number charged) may ascend = rw (append-nil (batches journal)) (Ascend-filter (length (batches journal)) (λ (b : Batch). not (b.number == number)) (out journal) ascend)
ascends terms journal by (Returned number) may ascend = rw (append-nil (batches journal)) (Ascend-filter (length (batches journal)) (λ (b : Batch). not (b.number == number)) (out journal) ascend)
ascends terms journal by Shadowed may ascend = rw (append-nil (batches journal)) ascend
ascends terms journal by MasterBegun may ascend = rw (append-nil (batches journal)) ascend
ascends terms journal by (MasterStep split) may ascend = rw (append-nil (batches journal)) ascend
ascends terms journal by MasterEnded may ascend = rw (append-nil (batches journal)) ascend
ascends terms journal by (Opened id) may ascend = rw (append-nil (batches journal)) ascend
ascends terms journal by (Answered id at paths) may ascend = rw (append-nil (batches journal)) ascend
ascends terms journal by (Said id reply) may ascend = rw (append-nil (batches journal)) ascend

out-chain : (terms : Terms) (journal : List Event) → Chain terms journal → Ascend (length (batches journal)) (out journal)
out-chain terms _ NoEvent = tt
out-chain terms _ (Next journal event chain may) =
    rw (batches-push journal event, out-push journal event) (ascends terms journal event.by event.what may (out-chain terms journal chain))

pub out_ascends : (terms : Terms) (journal : List Event) → Run terms journal → Ascend (length (batches journal)) (out journal)
out_ascends terms journal run = out-chain terms journal (Chain-run terms journal run)

-- ---- the batches that were begun

batches_ascend : (terms : Terms) (journal : List Event) (by : ℕ) (what : Happened) → May terms journal by what → Ascend (length (batches journal)) (batches journal)
    → Ascend (length (batches journal ++ batch_of (tells what).filed)) (batches journal ++ batch_of (tells what).filed)
batches_ascend terms journal by (Asked id request) may ascend = rw (append-nil (batches journal)) ascend
batches_ascend terms journal by (Noted notice) may ascend = rw (append-nil (batches journal)) ascend
batches_ascend terms journal by (Put path seq transcript) may ascend = rw (append-nil (batches journal)) ascend
batches_ascend terms journal by (Erased path seq) may ascend = rw (append-nil (batches journal)) ascend
batches_ascend terms journal by Started may ascend = rw (append-nil (batches journal)) ascend
batches_ascend terms journal by StartFailed may ascend = rw (append-nil (batches journal)) ascend
batches_ascend terms journal by DaemonLost may ascend = rw (append-nil (batches journal)) ascend
batches_ascend terms journal by (Begun batch) may ascend =
    subst (λ n. Ascend n (batches journal ++ batch ∷ [])) (sym (length-append (batches journal) (batch ∷ []))) (Ascend-push (length (batches journal)) (batches journal) batch ascend may.next)
batches_ascend terms journal by (BatchDone number outcomes) may ascend = rw (append-nil (batches journal)) ascend
batches_ascend terms journal by (BatchDied number charged) may ascend = rw (append-nil (batches journal)) ascend
batches_ascend terms journal by (Returned number) may ascend = rw (append-nil (batches journal)) ascend
batches_ascend terms journal by Shadowed may ascend = rw (append-nil (batches journal)) ascend
batches_ascend terms journal by MasterBegun may ascend = rw (append-nil (batches journal)) ascend
batches_ascend terms journal by (MasterStep split) may ascend = rw (append-nil (batches journal)) ascend
batches_ascend terms journal by MasterEnded may ascend = rw (append-nil (batches journal)) ascend
batches_ascend terms journal by (Opened id) may ascend = rw (append-nil (batches journal)) ascend
batches_ascend terms journal by (Answered id at paths) may ascend = rw (append-nil (batches journal)) ascend
batches_ascend terms journal by (Said id reply) may ascend = rw (append-nil (batches journal)) ascend

batches-chain : (terms : Terms) (journal : List Event) → Chain terms journal → Ascend (length (batches journal)) (batches journal)
batches-chain terms _ NoEvent = tt
batches-chain terms _ (Next journal event chain may) =
    rw (batches-push journal event) (batches_ascend terms journal event.by event.what may (batches-chain terms journal chain))

-- a batch that was begun is the only one that was under its number
pub only_begun : (terms : Terms) (journal : List Event) → Run terms journal → (batch : Batch) → Contains (batches journal) batch → filter (λ (b : Batch). b.number == batch.number) (batches journal) ≡ batch ∷ []
only_begun terms journal run batch here = only_number (length (batches journal)) (batches journal) batch (batches-chain terms journal (Chain-run terms journal run)) here

-- ---- documents that are out were noted, under their numbers or later ones

abbrev pub AreReached : List Notice → List (List ℕ × Seq) → Type 0
AreReached notices docs = All (λ (d : List ℕ × Seq). IsTrue (was_reached notices d.0 d.1.0)) docs

abbrev AllReached : List Notice → List Batch → Type 0
AllReached notices bs = All (λ (b : Batch). AreReached notices b.docs) bs

AllReached-later : (notices more : List Notice) (bs : List Batch) → AllReached notices bs → AllReached (notices ++ more) bs
AllReached-later notices more bs all =
    All-weaker (λ (b : Batch). AreReached notices b.docs) (λ (b : Batch). AreReached (notices ++ more) b.docs)
    (λ b reached. All-weaker (λ (d : List ℕ × Seq). IsTrue (was_reached notices d.0 d.1.0)) (λ (d : List ℕ × Seq). IsTrue (was_reached (notices ++ more) d.0 d.1.0)) (λ d n. reached_later notices more d.0 d.1.0 n) b.docs reached) bs all

-- an unserved notice was reached
unserved-reached : (notices : List Notice) (served : List (List ℕ × Seq)) (n : Notice) → is_unserved notices served n ≡ true → IsTrue (was_reached notices n.path n.seq.0)
unserved-reached notices served n unserved =
    let some = unserved-above notices served n unserved in
    let latest = unserved-is_latest notices served n unserved in
    let within : n.seq.0 ≤ latest_number notices n.path = omega (arith, latest) in
    grind (arith, nat_tests, some, within)

-- so the free documents were
free_reached : (terms : Terms) (journal : List Event) (most : ℕ) → AreReached (notices terms journal) (docs_of (take most (free terms journal)))
free_reached terms journal most =
    let was = λ (n : Notice). IsTrue (was_reached (notices terms journal) n.path n.seq.0) in
    All-map (λ (d : List ℕ × Seq). IsTrue (was_reached (notices terms journal) d.0 d.1.0)) (λ (n : Notice). (n.path, n.seq)) (take most (free terms journal))
    (All-take was most (free terms journal)
    (All-filter (is_free (out journal)) was (pending terms journal)
    (All-filter (λ (n : Notice). not (is_unfiltered terms journal n)) was (unserved_notices terms journal)
    (All-weaker (λ (n : Notice). is_unserved (notices terms journal) (served_numbers terms journal) n ≡ true) was (unserved-reached (notices terms journal) (served_numbers terms journal))
    (unserved_notices terms journal) (All-passes (is_unserved (notices terms journal) (served_numbers terms journal)) (notices terms journal))))))

outs_reached : (terms : Terms) (journal : List Event) (by : ℕ) (what : Happened) → May terms journal by what → AllReached (notices terms journal) (out journal)
    → AllReached (notices terms journal ++ option_to_list (tells what).notice) (file_where (filings journal) (tells what).filed).out
outs_reached terms journal by (Asked id request) may all = AllReached-later (notices terms journal) [] (out journal) all
outs_reached terms journal by (Noted notice) may all = AllReached-later (notices terms journal) (notice ∷ []) (out journal) all
outs_reached terms journal by (Put path seq transcript) may all = AllReached-later (notices terms journal) [] (out journal) all
outs_reached terms journal by (Erased path seq) may all = AllReached-later (notices terms journal) [] (out journal) all
outs_reached terms journal by Started may all = AllReached-later (notices terms journal) [] (out journal) all
outs_reached terms journal by StartFailed may all = AllReached-later (notices terms journal) [] (out journal) all
outs_reached terms journal by DaemonLost may all = AllReached-later (notices terms journal) [] (out journal) all
outs_reached terms journal by (Begun batch) may all =
    AllReached-later (notices terms journal) [] (out journal ++ batch ∷ [])
    (All-push (λ (b : Batch). AreReached (notices terms journal) b.docs) (out journal) batch all (subst (AreReached (notices terms journal)) (sym may.first) (free_reached terms journal may.most)))
outs_reached terms journal by (BatchDone number outcomes) may all =
    AllReached-later (notices terms journal) [] (without_number (out journal) number) (All-filter (λ (b : Batch). not (b.number == number)) (λ (b : Batch). AreReached (notices terms journal) b.docs) (out journal) all)
outs_reached terms journal by (BatchDied number charged) may all =
    AllReached-later (notices terms journal) [] (without_number (out journal) number) (All-filter (λ (b : Batch). not (b.number == number)) (λ (b : Batch). AreReached (notices terms journal) b.docs) (out journal) all)
outs_reached terms journal by (Returned number) may all =
    AllReached-later (notices terms journal) [] (without_number (out journal) number) (All-filter (λ (b : Batch). not (b.number == number)) (λ (b : Batch). AreReached (notices terms journal) b.docs) (out journal) all)
outs_reached terms journal by Shadowed may all = AllReached-later (notices terms journal) [] (out journal) all
outs_reached terms journal by MasterBegun may all = AllReached-later (notices terms journal) [] (out journal) all
outs_reached terms journal by (MasterStep split) may all = AllReached-later (notices terms journal) [] (out journal) all
outs_reached terms journal by MasterEnded may all = AllReached-later (notices terms journal) [] (out journal) all
outs_reached terms journal by (Opened id) may all = AllReached-later (notices terms journal) [] (out journal) all
outs_reached terms journal by (Answered id at paths) may all = AllReached-later (notices terms journal) [] (out journal) all
outs_reached terms journal by (Said id reply) may all = AllReached-later (notices terms journal) [] (out journal) all

reached-chain : (terms : Terms) (journal : List Event) → Chain terms journal → AllReached (notices terms journal) (out journal)
reached-chain terms _ NoEvent = λ k d within. absurd (omega (arith, within))
reached-chain terms _ (Next journal event chain may) =
    rw (notices-push terms journal event, out-push journal event) (outs_reached terms journal event.by event.what may (reached-chain terms journal chain))

pub out_reached : (terms : Terms) (journal : List Event) → Run terms journal → AllReached (notices terms journal) (out journal)
out_reached terms journal run = reached-chain terms journal (Chain-run terms journal run)

-- ---- what a batch that is out says

-- its documents are those of its number
pub docs_out-chain : (terms : Terms) (journal : List Event) → Chain terms journal → (batch : Batch) → Contains (out journal) batch → docs_out (out journal) batch.number ≡ batch.docs
docs_out-chain terms journal chain batch here =
    ap (λ bs. flat_map (λ (b : Batch). b.docs) bs) (only_number (length (batches journal)) (out journal) batch (out-chain terms journal chain) here)
    ∙ append-nil batch.docs

-- it alone has its number
pub only_out : (terms : Terms) (journal : List Event) → Run terms journal → (batch : Batch) → Contains (out journal) batch → filter (λ (b : Batch). b.number == batch.number) (out journal) ≡ batch ∷ []
only_out terms journal run batch here = only_number (length (batches journal)) (out journal) batch (out_ascends terms journal run) here

module _ (terms : Terms) (journal : List Event) (run : Run terms journal) (batch : Batch) (here : Contains (out journal) batch) where
  pub docs_out-is : docs_out (out journal) batch.number ≡ batch.docs
  docs_out-is = docs_out-chain terms journal (Chain-run terms journal run) batch here

  -- and they were noted under their numbers or later ones
  pub docs_reached : AreReached (notices terms journal) batch.docs
  docs_reached = All-contains (λ (b : Batch). AreReached (notices terms journal) b.docs) (out journal) batch (out_reached terms journal run) here

  pub docs_noted : All (λ (d : List ℕ × Seq). was_noted (notices terms journal) d.0 ≡ true) batch.docs
  docs_noted =
      All-weaker (λ (d : List ℕ × Seq). IsTrue (was_reached (notices terms journal) d.0 d.1.0)) (λ (d : List ℕ × Seq). was_noted (notices terms journal) d.0 ≡ true)
      (λ d reached. noted-reached (notices terms journal) d.0 d.1.0 reached) batch.docs docs_reached
