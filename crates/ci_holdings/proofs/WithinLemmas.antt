-- A journal within its bound, but for ends of batches behind it.
use Rattle.std.proofs.Common.{arith, ◌≡◌, ◌∙◌, ◌==◌, not, ℕ, ◌+◌, ◌*◌, ◌≤◌, List, [], ◌∷◌, ◌++◌, Contains, IsTrue, length, take, Option, Some, None, refl, ap, sym, subst, append-nil, append_assoc, length-append}
use Rattle.std.proofs.lemmas.List.{take-append-le, take_all}
use Rattle.std.proofs.lemmas.List.Elements.{All-head, All-push, All-tail}
use Rattle.std.proofs.lemmas.List.Filters.{length-filter_both}
use Rattle.std.proofs.lemmas.List.Sums.{sum_by-append, sum_by-cons}
use Rattle.ci_change.specs.declared.batch.Batch.{Batch}
use Rattle.ci_journal.specs.declared.event.Event.{Event}
use Rattle.ci_journal.specs.declared.event.Happened.{Happened}
use Rattle.ci_journal.specs.declared.event.Happened.TheVariants.{Asked, Noted, Put, Erased, Started, StartFailed, DaemonLost, Begun, BatchDone, BatchDied, Returned, Shadowed, MasterBegun, MasterStep, MasterEnded, Opened, Answered, Said}
use Rattle.ci_journal.specs.Bytes.{event_bytes, journal_bytes}
use Rattle.ci_journal.specs.Filings.{Filings, batches, filings, out, without_number}
use Rattle.ci_journal.specs.Printed.{AreEnds, ends_batch}
use Rattle.ci_journal.specs.Step.{Chain, Run}
use Rattle.ci_journal.specs.Step.Chain.{NoEvent, Next}
use Rattle.ci_journal.specs.Tells.{Filed, tells}
use Rattle.ci_journal.specs.Tells.Filed.{One, Begins, Ends}
use Rattle.ci_journal.specs.Terms.{Terms}
use Rattle.ci_journal.proofs.ChainLemmas.{Chain-run}
use Rattle.ci_journal.proofs.FoldsLemmas.{batch_of, batches-push, file_where}
use Rattle.ci_journal.proofs.LawLemmas.{Chain-take}
use Rattle.ci_journal.proofs.RunLemmas.{batches_within}
use Rattle.ci_book.specs.Book.{IsWithin}
use Rattle.ci_holdings.proofs.OutLemmas.{only_out, out-push}

-- the whole journal is within the bound
pub IsWithin-whole : (limit : ℕ) (journal : List Event) → journal_bytes journal ≤ limit → IsWithin limit journal
IsWithin-whole limit journal within = record {
  front = journal;
  ends = [];
  whole = sym (append-nil journal);
  each = λ k d below. absurd (omega (arith, below));
  few = omega arith;
  within = within;
}

-- the end of a batch that is out leaves one fewer
pub fewer-out : (terms : Terms) (journal : List Event) (batch : Batch) → Run terms journal → Contains (out journal) batch → length (without_number (out journal) batch.number) + 1 ≡ length (out journal)
fewer-out terms journal batch run here =
    let both = length-filter_both (λ (b : Batch). b.number == batch.number) (λ (b : Batch). not (b.number == batch.number)) (λ _. refl) (out journal) in
    omega (arith, both, ap length (only_out terms journal run batch here))

-- ---- how far ends of batches may pass the bound

end_bytes : (what : Happened) → IsTrue (ends_batch what) → event_bytes what ≡ 64
end_bytes (BatchDied number charged) is = refl
end_bytes (Returned number) is = refl
end_bytes (Asked id request) is = absurd (cc)
end_bytes (Noted notice) is = absurd (cc)
end_bytes (Put path seq transcript) is = absurd (cc)
end_bytes (Erased path seq) is = absurd (cc)
end_bytes Started is = absurd (cc)
end_bytes StartFailed is = absurd (cc)
end_bytes DaemonLost is = absurd (cc)
end_bytes (Begun batch) is = absurd (cc)
end_bytes (BatchDone number outcomes) is = absurd (cc)
end_bytes Shadowed is = absurd (cc)
end_bytes MasterBegun is = absurd (cc)
end_bytes (MasterStep split) is = absurd (cc)
end_bytes MasterEnded is = absurd (cc)
end_bytes (Opened id) is = absurd (cc)
end_bytes (Answered id at paths) is = absurd (cc)
end_bytes (Said id reply) is = absurd (cc)

ends_bytes : (events : List Event) → AreEnds events → journal_bytes events ≡ 64 * length events
ends_bytes [] each = refl
ends_bytes (e ∷ events) each =
    let first : event_bytes e.what ≡ 64 = end_bytes e.what (All-head (λ (x : Event). IsTrue (ends_batch x.what)) e events each) in
    let rest = ends_bytes events (All-tail (λ (x : Event). IsTrue (ends_batch x.what)) e events each) in
    omega (arith, first, rest, sum_by-cons (λ (x : Event). event_bytes x.what) e events)

-- no more batches are out than were begun
outs_where : (so_far : Filings) (begun : List Batch) (o : Option Filed) → length so_far.out ≤ length begun → length (file_where so_far o).out ≤ length (begun ++ batch_of o)
outs_where so_far begun None few = omega (arith, few, length-append begun [])
outs_where so_far begun (Some (One f)) few = omega (arith, few, length-append begun [])
outs_where so_far begun (Some (Begins batch)) few = omega (arith, few, length-append begun (batch ∷ []), length-append so_far.out (batch ∷ []))
outs_where so_far begun (Some (Ends number ending)) few =
    let both = length-filter_both (λ (b : Batch). b.number == number) (λ (b : Batch). not (b.number == number)) (λ _. refl) so_far.out in
    omega (arith, few, both, length-append begun [])

pub outs_within : (terms : Terms) (journal : List Event) → Chain terms journal → length (out journal) ≤ length (batches journal)
outs_within terms _ NoEvent = omega arith
outs_within terms _ (Next journal e chain may) =
    rw (batches-push journal e, out-push journal e) (outs_where (filings journal) (batches journal) (tells e.what).filed (outs_within terms journal chain))

-- the bytes of ends behind are at most those of the bound again
pub IsWithin-small : (terms : Terms) (limit : ℕ) (journal : List Event) → Run terms journal → IsWithin limit journal → journal_bytes journal ≤ 2 * limit
IsWithin-small terms limit journal run is =
    let front_is : take (length is.front) journal ≡ is.front =
    ap (take (length is.front)) is.whole ∙ take-append-le (length is.front) is.front is.ends (omega arith) ∙ take_all (length is.front) is.front (omega arith) in
    let chain : Chain terms is.front = subst (Chain terms) front_is (Chain-take terms journal (Chain-run terms journal run) (length is.front)) in
    omega (arith, is.few, is.within, outs_within terms is.front chain, batches_within terms is.front chain, ends_bytes is.ends is.each, ap journal_bytes is.whole, sum_by-append (λ (x : Event). event_bytes x.what) is.front is.ends)

-- so that places for their ends are few
pub places_within : (terms : Terms) (limit : ℕ) (journal : List Event) → Run terms journal → IsWithin limit journal → 64 * length (out journal) ≤ 2 * limit
places_within terms limit journal run is =
    let chain = Chain-run terms journal run in
    omega (arith, outs_within terms journal chain, batches_within terms journal chain, IsWithin-small terms limit journal run is)

-- one end more
pub IsWithin-end : (terms : Terms) (limit : ℕ) (journal : List Event) (batch : Batch) (e : Event) → Run terms journal → Contains (out journal) batch → IsTrue (ends_batch e.what)
    → out (journal ++ e ∷ []) ≡ without_number (out journal) batch.number → IsWithin limit journal → IsWithin limit (journal ++ e ∷ [])
IsWithin-end terms limit journal batch e run here ends left is = record {
  front = is.front;
  ends = is.ends ++ e ∷ [];
  whole = ap (λ es. es ++ e ∷ []) is.whole ∙ append_assoc is.front is.ends (e ∷ []);
  each = All-push (λ (x : Event). IsTrue (ends_batch x.what)) is.ends e is.each ends;
  few = omega (arith, is.few, length-append is.ends (e ∷ []), ap length left, fewer-out terms journal batch run here);
  within = is.within;
}
