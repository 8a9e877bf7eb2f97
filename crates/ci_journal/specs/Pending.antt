-- Which notices are pending, which documents are set aside as unfiltered, and which a batch may take.
use Rattle.std.specs.Prelude.{not, ℕ, Bool, List, Option, Some, None, filter, filter_map}
use Rattle.ci_base.specs.declared.numbers.Seq.{Seq}
use Rattle.ci_change.specs.declared.notice.Notice.{Notice}
use Rattle.ci_change.specs.Pending as change
use Rattle.ci_change.specs.Pending.{unserved_of, is_free, is_changed}
use Rattle.ci_journal.specs.declared.event.Event.{Event}
use Rattle.ci_journal.specs.Tells.{Fate, Filing}
use Rattle.ci_journal.specs.Tells.Fate.{Charged, Refused}
use Rattle.ci_journal.specs.Filings.{fates, out}
use Rattle.ci_journal.specs.Folds.{notices}
use Rattle.ci_journal.specs.Served.{served_numbers}
use Rattle.ci_journal.specs.Terms.{Terms}

-- the latest notice of each path that is above the path's served number
abbrev pub unserved_notices : Terms → List Event → List Notice
unserved_notices terms journal = unserved_of (notices terms journal) (served_numbers terms journal)

-- the document whose fate is a charge
abbrev pub charge_under : List ℕ × Seq → Fate → Option (List ℕ × Seq)
charge_under doc Charged = Some doc
charge_under doc _ = None

abbrev pub charge_of : Filing → Option (List ℕ × Seq)
charge_of f = charge_under (f.path, f.seq) f.fate

-- the charges among the fates
abbrev pub charges_in : List Filing → List (List ℕ × Seq)
charges_in filed = filter_map charge_of filed

-- the document whose fate is a refusal
abbrev pub refusal_under : List ℕ × Seq → Fate → Option (List ℕ × Seq)
refusal_under doc Refused = Some doc
refusal_under doc _ = None

abbrev pub refusal_of : Filing → Option (List ℕ × Seq)
refusal_of f = refusal_under (f.path, f.seq) f.fate

-- the refusals among the fates
abbrev pub refusals_in : List Filing → List (List ℕ × Seq)
refusals_in filed = filter_map refusal_of filed

-- its filter refused it, or its attempts are spent
abbrev pub is_set_aside : ℕ → List Filing → Notice → Bool
is_set_aside retries filed notice = change.is_set_aside retries (charges_in filed) (refusals_in filed) notice

abbrev pub is_unfiltered : Terms → List Event → Notice → Bool
is_unfiltered terms journal notice = is_set_aside terms.retries (fates journal) notice

abbrev pub unfiltered : Terms → List Event → List Notice
unfiltered terms journal = filter (is_unfiltered terms journal) (unserved_notices terms journal)

abbrev pub pending : Terms → List Event → List Notice
pending terms journal = filter (λ n. not (is_unfiltered terms journal n)) (unserved_notices terms journal)

-- the pending deletions
abbrev pub deletions : Terms → List Event → List Notice
deletions terms journal = filter (λ n. not (is_changed n.what)) (pending terms journal)

-- those that a batch may take: changes of documents that no batch that is out has
abbrev pub free : Terms → List Event → List Notice
free terms journal = filter (is_free (out journal)) (pending terms journal)
