-- What became of documents that were noted: which batches of them are out, and the fate of each document in one.
use Rattle.std.specs.Prelude.{◌==◌, not, ℕ, List, [], ◌∷◌, ◌++◌, Option, Some, None, drop, filter, filter_map, flat_map, fold, map, take}
use Rattle.std.specs.List.{zip}
use Rattle.ci_base.specs.declared.numbers.Seq.{Seq}
use Rattle.ci_change.specs.declared.batch.Batch.{Batch}
use Rattle.ci_chunk.specs.declared.outcome.Outcome.{Outcome}
use Rattle.ci_chunk.specs.declared.outcome.Outcome.TheVariants as outcome
use Rattle.ci_journal.specs.declared.event.Event.{Event}
use Rattle.ci_journal.specs.Tells.{Fate, Filing, Ending, Filed, tellings}
use Rattle.ci_journal.specs.Tells.Fate.{Filtered, Charged, Refused}
use Rattle.ci_journal.specs.Tells.Ending.{Through, Within, Back}
use Rattle.ci_journal.specs.Tells.Filed.{One, Begins, Ends}

-- the batches that are out, and the fates of documents in order
pub record Filings : Type 0 where
  pub out : List Batch
  pub filed : List Filing

abbrev pub nothing_filed : Filings
nothing_filed = record { out = []; filed = [] }

-- an outcome that failed spends an attempt
abbrev pub fate_of : Outcome → Fate
fate_of (outcome.Done transcript) = Filtered transcript
fate_of (outcome.Failed status) = Charged
fate_of (outcome.Refused status) = Refused

abbrev pub filing : List ℕ × Seq → Fate → Filing
filing doc fate = record { path = doc.0; seq = doc.1; fate = fate }

-- the fates of a batch's documents; a death charges the document at its place alone
abbrev pub fates_at_end : List (List ℕ × Seq) → Ending → List Filing
fates_at_end docs (Through outcomes) = map (λ p. filing p.0 (fate_of p.1)) (zip docs outcomes)
fates_at_end docs (Within charged) = map (λ doc. filing doc Charged) (take 1 (drop charged docs))
fates_at_end docs Back = []

-- the documents of the batch with this number
abbrev pub docs_out : List Batch → ℕ → List (List ℕ × Seq)
docs_out out number = flat_map (λ b. b.docs) (filter (λ b. b.number == number) out)

abbrev pub without_number : List Batch → ℕ → List Batch
without_number out number = filter (λ b. not (b.number == number)) out

abbrev pub file : Filings → Filed → Filings
file so_far (One filing) = record so_far { filed = so_far.filed ++ filing ∷ [] }
file so_far (Begins batch) = record so_far { out = so_far.out ++ batch ∷ [] }
file so_far (Ends number ending) = record {
  out = without_number so_far.out number;
  filed = so_far.filed ++ fates_at_end (docs_out so_far.out number) ending;
}

-- what the events filed, one after the other
abbrev pub filings : List Event → Filings
filings journal = fold file nothing_filed (tellings (λ t. t.filed) journal)

-- the batches that are out: begun, and not ended
abbrev pub out : List Event → List Batch
out journal = (filings journal).out

-- the fates of documents
abbrev pub fates : List Event → List Filing
fates journal = (filings journal).filed

abbrev pub batch_in : Filed → Option Batch
batch_in (Begins batch) = Some batch
batch_in _ = None

-- the batches, in the order of their numbers
abbrev pub batches : List Event → List Batch
batches journal = filter_map batch_in (tellings (λ t. t.filed) journal)
