-- The notices that wait are those that the change list has pending.
use Rattle.std.proofs.Common.{arith, ◌≤◌, ◌++◌, length, ◌≡◌, not, Bool, List, filter, refl, ap}
use Rattle.std.proofs.lemmas.List.Filters.{length-filter_both}
use Rattle.ci_change.specs.declared.notice.Notice.{Notice}
use Rattle.ci_change.specs.HandedIn.{HandedIn}
use Rattle.ci_change.specs.Pending as change
use Rattle.ci_change.specs.Pending.{is_unserved}
use Rattle.ci_journal.specs.declared.event.Event.{Event}
use Rattle.ci_journal.specs.Filings.{fates}
use Rattle.ci_journal.specs.Folds.{new_notices, notices}
use Rattle.ci_journal.specs.Pending.{is_set_aside, pending, unfiltered, unserved_notices}
use Rattle.ci_journal.specs.Served.{served_numbers}
use Rattle.ci_journal.specs.Terms.{Beginning, Terms}
use Rattle.ci_holdings.specs.Kept.{StartsEmpty, Tracks}

pub pending-tracks : (terms : Terms) (events : List Event) (changes : HandedIn) → Tracks terms events changes → change.pending changes ≡ pending terms events
pending-tracks terms events changes tracks = rw (tracks.notices, tracks.served, tracks.charges, tracks.refusals, tracks.retries) refl

pub unfiltered-tracks : (terms : Terms) (events : List Event) (changes : HandedIn) → Tracks terms events changes → change.unfiltered changes ≡ unfiltered terms events
unfiltered-tracks terms events changes tracks = rw (tracks.notices, tracks.served, tracks.charges, tracks.refusals, tracks.retries) refl

fewer : (test : Notice → Bool) (list : List Notice) → length (filter test list) ≤ length list
fewer test list = let both = length-filter_both test (λ n. not (test n)) (λ _. refl) list in omega (arith, both)

-- no more are set aside than were noted
pub few_unfiltered : (terms : Terms) (events : List Event) → StartsEmpty terms → length (unfiltered terms events) ≤ length (new_notices events)
few_unfiltered terms events starts =
    let own : length (notices terms events) ≡ length (new_notices events) = ap (λ (b : Beginning). length (b.notices ++ new_notices events)) starts.beginning in
    let unserved = fewer (is_unserved (notices terms events) (served_numbers terms events)) (notices terms events) in
    let spent = fewer (is_set_aside terms.retries (fates events)) (unserved_notices terms events) in
    omega (arith, own, unserved, spent)
