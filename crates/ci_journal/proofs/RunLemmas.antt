-- What holds of every run.
use Rattle.std.proofs.Common.{arith, ◌≡◌, ◌∙◌, ◌==◌, ◌||◌, ℕ, ◌+◌, ◌*◌, ◌<◌, ◌≤◌, false, List, [], ◌∷◌, ◌++◌, length, Option, Some, None, option_to_list, zero, suc, refl, ap}
use Rattle.std.proofs.lemmas.Option.{slice_get_within}
use Rattle.std.proofs.lemmas.List.{length-append}
use Rattle.ci_journal.specs.declared.event.Event.{Event}
use Rattle.ci_journal.specs.declared.event.Happened.{Happened}
use Rattle.ci_journal.specs.declared.event.Happened.TheVariants.{Asked, Noted, Put, Erased, Started, StartFailed, DaemonLost, Begun, BatchDone, BatchDied, Returned, Shadowed, MasterBegun, MasterStep, MasterEnded, Opened, Answered, Said}
use Rattle.ci_journal.specs.declared.request.Request.{Request}
use Rattle.ci_journal.specs.Bytes.{journal_bytes}
use Rattle.ci_journal.specs.Filings.{batches, batch_in}
use Rattle.ci_journal.specs.Folds.{requests_in, request_at, new_notices, is_replied, is_opened}
use Rattle.ci_journal.specs.Step.{May, Run, Chain}
use Rattle.ci_journal.specs.Step.Chain.{NoEvent, Next}
use Rattle.ci_journal.specs.Tells.{Filed, tells}
use Rattle.ci_journal.specs.Terms.{Terms}
use Rattle.ci_journal.proofs.ChainLemmas.{Chain-run}
use Rattle.ci_journal.proofs.FoldsLemmas.{requests_in-push, new_notices-push, is_number, is_replied-push, is_opened-push, batch_of, batches-push, journal_bytes-push}

apart : (a b : ℕ) → a < b → (a == b) ≡ false
apart a b below = grind arith

-- a request of a number was asked
pub request_within : (journal : List Event) (id : ℕ) (request : Request) → request_at journal id ≡ Some request → (0 < id) × (id ≤ length (requests_in journal))
request_within journal zero request found = absurd (cc)
request_within journal (suc before) request found = let within = slice_get_within (requests_in journal) before request found in (omega arith, omega (arith, within))

no_reply_above : (terms : Terms) (journal : List Event) (by : ℕ) (what : Happened) (id : ℕ) → May terms journal by what → length (requests_in journal) < id → is_number id (tells what).reply ≡ false
no_reply_above terms journal by (Answered i at paths) id may above =
    let asks = may.right.asks in
    let within = request_within journal i asks.request asks.found in
    apart i id (omega (arith, within.1))
no_reply_above terms journal by (Said i reply) id may above = apart i id (omega (arith, may.asked_before))
no_reply_above terms journal by (Asked i request) id may above = refl
no_reply_above terms journal by (Noted notice) id may above = refl
no_reply_above terms journal by (Put path seq transcript) id may above = refl
no_reply_above terms journal by (Erased path seq) id may above = refl
no_reply_above terms journal by Started id may above = refl
no_reply_above terms journal by StartFailed id may above = refl
no_reply_above terms journal by DaemonLost id may above = refl
no_reply_above terms journal by (Begun batch) id may above = refl
no_reply_above terms journal by (BatchDone number outcomes) id may above = refl
no_reply_above terms journal by (BatchDied number charged) id may above = refl
no_reply_above terms journal by (Returned number) id may above = refl
no_reply_above terms journal by Shadowed id may above = refl
no_reply_above terms journal by MasterBegun id may above = refl
no_reply_above terms journal by (MasterStep split) id may above = refl
no_reply_above terms journal by MasterEnded id may above = refl
no_reply_above terms journal by (Opened i) id may above = refl

no_opening_above : (terms : Terms) (journal : List Event) (by : ℕ) (what : Happened) (id : ℕ) → May terms journal by what → length (requests_in journal) < id → is_number id (tells what).opening ≡ false
no_opening_above terms journal by (Opened i) id may above =
    let asks = may.1.waits.asks in
    let within = request_within journal i asks.request asks.found in
    apart i id (omega (arith, within.1))
no_opening_above terms journal by (Answered i at paths) id may above = refl
no_opening_above terms journal by (Said i reply) id may above = refl
no_opening_above terms journal by (Asked i request) id may above = refl
no_opening_above terms journal by (Noted notice) id may above = refl
no_opening_above terms journal by (Put path seq transcript) id may above = refl
no_opening_above terms journal by (Erased path seq) id may above = refl
no_opening_above terms journal by Started id may above = refl
no_opening_above terms journal by StartFailed id may above = refl
no_opening_above terms journal by DaemonLost id may above = refl
no_opening_above terms journal by (Begun batch) id may above = refl
no_opening_above terms journal by (BatchDone number outcomes) id may above = refl
no_opening_above terms journal by (BatchDied number charged) id may above = refl
no_opening_above terms journal by (Returned number) id may above = refl
no_opening_above terms journal by Shadowed id may above = refl
no_opening_above terms journal by MasterBegun id may above = refl
no_opening_above terms journal by (MasterStep split) id may above = refl
no_opening_above terms journal by MasterEnded id may above = refl

requests_grow : (journal : List Event) (e : Event) → length (requests_in (journal ++ e ∷ [])) ≡ length (requests_in journal) + length (option_to_list (tells e.what).request)
requests_grow journal e = ap length (requests_in-push journal e) ∙ length-append (requests_in journal) _

unreplied-chain : (terms : Terms) (journal : List Event) → Chain terms journal → (id : ℕ) → length (requests_in journal) < id → is_replied journal id ≡ false
unreplied-chain terms _ NoEvent id above = refl
unreplied-chain terms _ (Next journal e chain may) id above =
    let before : length (requests_in journal) < id = omega (arith, requests_grow journal e) in
    is_replied-push journal e id
    ∙ ap (λ b. b || is_number id (tells e.what).reply) (unreplied-chain terms journal chain id before)
    ∙ no_reply_above terms journal e.by e.what id may before

-- only requests that were asked have replies
pub unreplied_above : (terms : Terms) (journal : List Event) → Run terms journal → (id : ℕ) → length (requests_in journal) < id → is_replied journal id ≡ false
unreplied_above terms journal run id above = unreplied-chain terms journal (Chain-run terms journal run) id above

unopened-chain : (terms : Terms) (journal : List Event) → Chain terms journal → (id : ℕ) → length (requests_in journal) < id → is_opened journal id ≡ false
unopened-chain terms _ NoEvent id above = refl
unopened-chain terms _ (Next journal e chain may) id above =
    let before : length (requests_in journal) < id = omega (arith, requests_grow journal e) in
    is_opened-push journal e id
    ∙ ap (λ b. b || is_number id (tells e.what).opening) (unopened-chain terms journal chain id before)
    ∙ no_opening_above terms journal e.by e.what id may before

-- and only such were opened
pub unopened_above : (terms : Terms) (journal : List Event) → Run terms journal → (id : ℕ) → length (requests_in journal) < id → is_opened journal id ≡ false
unopened_above terms journal run id above = unopened-chain terms journal (Chain-run terms journal run) id above

at_most_one : {X : Type 0} (o : Option X) → length (option_to_list o) ≤ 1
at_most_one None = omega arith
at_most_one (Some x) = omega arith

one_batch : (o : Option Filed) → length (batch_of o) ≤ 1
one_batch None = omega arith
one_batch (Some filed) = at_most_one (batch_in filed)

-- each event counts 64 bytes at least, so a bounded journal has few requests, few notices and few batches
pub requests_within : (terms : Terms) (journal : List Event) → Chain terms journal → 64 * length (requests_in journal) ≤ journal_bytes journal
requests_within terms _ NoEvent = omega arith
requests_within terms _ (Next journal e chain may) =
    omega (arith, requests_grow journal e, requests_within terms journal chain, at_most_one (tells e.what).request, journal_bytes-push journal e)

pub notices_within : (terms : Terms) (journal : List Event) → Chain terms journal → 64 * length (new_notices journal) ≤ journal_bytes journal
notices_within terms _ NoEvent = omega arith
notices_within terms _ (Next journal e chain may) =
    let grown : length (new_notices (journal ++ e ∷ [])) ≡ length (new_notices journal) + length (option_to_list (tells e.what).notice) =
    ap length (new_notices-push journal e) ∙ length-append (new_notices journal) _ in
    omega (arith, grown, notices_within terms journal chain, at_most_one (tells e.what).notice, journal_bytes-push journal e)

pub batches_within : (terms : Terms) (journal : List Event) → Chain terms journal → 64 * length (batches journal) ≤ journal_bytes journal
batches_within terms _ NoEvent = omega arith
batches_within terms _ (Next journal e chain may) =
    let grown : length (batches (journal ++ e ∷ [])) ≡ length (batches journal) + length (batch_of (tells e.what).filed) =
    ap length (batches-push journal e) ∙ length-append (batches journal) _ in
    omega (arith, grown, batches_within terms journal chain, one_batch (tells e.what).filed, journal_bytes-push journal e)
