-- What asking a request, opening a query and replying add to the journal.
use Rattle.std.proofs.Common.{arith, ◌≡◌, ◌∙◌, ◌||◌, ℕ, ◌+◌, ◌*◌, ◌≤◌, false, List, [], ◌∷◌, ◌++◌, length, drop, Option, Some, None, slice_get, option_to_list, refl, ap, sym, subst, length-append}
use Rattle.std.specs.FinMap.{entries}
use Rattle.ci_journal.specs.declared.event.Event.{Event}
use Rattle.ci_journal.specs.declared.event.Happened.TheVariants.{Asked, Opened}
use Rattle.ci_journal.specs.declared.request.Request.{Request}
use Rattle.ci_journal.specs.Bytes.{capped, event_bytes, journal_bytes}
use Rattle.ci_journal.specs.Filings.{Filings}
use Rattle.ci_journal.specs.Folds.{requests_in, is_opened, is_replied, reply_numbers}
use Rattle.ci_journal.specs.Queries.{IsFirstWaiting}
use Rattle.ci_journal.specs.Served.{live_map, served_by}
use Rattle.ci_journal.specs.Step.{Run, Chain}
use Rattle.ci_journal.specs.Step.Chain.{NoEvent, Next}
use Rattle.ci_journal.specs.Tells.{event, tells}
use Rattle.ci_journal.specs.Terms.{Terms}
use Rattle.ci_journal.proofs.FoldsLemmas.{filings-push, is_opened-push, is_replied-push, journal_bytes-push, reply_numbers-push}
use Rattle.ci_journal.proofs.RunLemmas.{unopened_above, unreplied_above}
use Rattle.ci_holdings.specs.declared.question.Question.{Question}
use Rattle.ci_holdings.specs.declared.waiting.Waiting.{Waiting}
use Rattle.ci_book.specs.Changes.{Adds, IsReady, Puts}
use Rattle.ci_holdings.specs.Core.{Core}
use Rattle.ci_holdings.specs.Kept.{IsHolding, Shelf}
use Rattle.ci_holdings.specs.Opening.{Opens}
use Rattle.ci_book.specs.Sheet.{Sheet}
use Rattle.ci_holdings.specs.Steps.{Told}
use Rattle.ci_holdings.specs.Waiting.{IsQueue}
use Rattle.ci_book.proofs.ChangesLemmas.{Adds-prepared, fits-one}
use Rattle.ci_holdings.proofs.QueueLemmas.{IsQueue-first}

at_most_one : {X : Type 0} (o : Option X) → length (option_to_list o) ≤ 1
at_most_one None = omega arith
at_most_one (Some x) = omega arith

-- each event counts 64 bytes at least, so a bounded journal has few replies
pub replies_within : (terms : Terms) (journal : List Event) → Chain terms journal → 64 * length (reply_numbers journal) ≤ journal_bytes journal
replies_within terms _ NoEvent = omega arith
replies_within terms _ (Next journal e chain may) =
    let grown : length (reply_numbers (journal ++ e ∷ [])) ≡ length (reply_numbers journal) + length (option_to_list (tells e.what).reply) =
    ap length (reply_numbers-push journal e) ∙ length-append (reply_numbers journal) _ in
    omega (arith, grown, replies_within terms journal chain, at_most_one (tells e.what).reply, journal_bytes-push journal e)

-- a request that is asked has no reply yet
pub unreplied-asked : (terms : Terms) (journal : List Event) (by id : ℕ) (request : Request) → Run terms journal → length (requests_in journal) + 1 ≤ id → is_replied (journal ++ event by (Asked id request) ∷ []) id ≡ false
unreplied-asked terms journal by id request run above =
    is_replied-push journal (event by (Asked id request)) id ∙ ap (λ b. b || false) (unreplied_above terms journal run id (omega (arith, above)))

-- and isn't open
pub unopened-asked : (terms : Terms) (journal : List Event) (by id : ℕ) (request : Request) → Run terms journal → length (requests_in journal) + 1 ≤ id → is_opened (journal ++ event by (Asked id request) ∷ []) id ≡ false
unopened-asked terms journal by id request run above =
    is_opened-push journal (event by (Asked id request)) id ∙ ap (λ b. b || false) (unopened_above terms journal run id (omega (arith, above)))

-- a queue is its first query and the rest
pub front-is : (queue after : List Waiting) (first : Waiting) → slice_get queue 0 ≡ Some first → after ≡ drop 1 queue → queue ≡ first ∷ after
front-is [] after first front goes = absurd (cc)
front-is (w ∷ rest) after first front goes =
    let same : w ≡ first = cc in
    ap (λ (v : Waiting). v ∷ rest) same ∙ ap (λ ws. first ∷ ws) (sym goes)

-- a queue without a first query is empty
pub none-first : (queue : List Waiting) → slice_get queue 0 ≡ None → queue ≡ []
none-first [] none = refl
none-first (w ∷ rest) none = absurd (cc)

-- what opening the first query that waits gives
pub opens-first : (before after : Core) (shelf : Shelf) → IsHolding before.terms before.sheet shelf → (ready : Sheet) (by places counted : ℕ) (first : Waiting) (rest : List Waiting) (question : Question) → Told before after → after.numbered ≡ before.numbered
    → counted ≡ capped (event_bytes (Opened first.id)) → IsReady before.sheet ready places counted → shelf.waiting ≡ first ∷ rest → Puts ready after.sheet (event by (Opened first.id))
    → question.id ≡ first.id → question.tree ≡ first.tree → question.at ≡ length before.sheet.events + 1 → question.plain ≡ entries (live_map before.terms before.sheet.events) → Opens before after by question
opens-first before after shelf kept ready by places counted first rest question told same counts fits front puts id_is tree_is at_is plain_is =
    let old = before.sheet in
    let new = after.sheet in
    let queue : IsQueue before.terms old.events (first ∷ rest) = subst (IsQueue before.terms old.events) front kept.waits in
    let shown : IsFirstWaiting before.terms old.events first.id first.tree = IsQueue-first before.terms old.events first rest queue in
    let whole : Adds old new (event by (Opened question.id) ∷ []) = subst (λ n. Adds old new (event by (Opened n) ∷ [])) (sym id_is) (Adds-prepared old ready new (event by (Opened first.id) ∷ []) fits.stays puts.adds) in
    let map_same : live_map before.terms new.events ≡ live_map before.terms old.events =
    ap (live_map before.terms) whole.events ∙ ap (λ (f : Filings). (served_by before.terms f.filed).documents) (filings-push old.events (event by (Opened question.id))) in
    record {
      makes = record { adds = whole; within = fits-one old ready new places counted (event by (Opened first.id)) kept.small counts fits puts.adds; told = told; numbered = same };
      first = subst (λ n. IsFirstWaiting before.terms old.events n question.tree) (sym id_is) (subst (λ t. IsFirstWaiting before.terms old.events first.id t) (sym tree_is) shown);
      at = at_is ∙ sym (ap length whole.events ∙ length-append old.events (event by (Opened question.id) ∷ []));
      plain = plain_is ∙ ap entries (sym map_same);
    }
