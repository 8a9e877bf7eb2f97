-- The talks that a journal tells of: each batch that was read to its end, or within which a daemon died. A batch that was
-- given back tells of none.
use Rattle.std.specs.Prelude.{ℕ, List, [], ◌∷◌, ◌++◌, fold}
use Rattle.ci_base.specs.declared.numbers.Seq.{Seq}
use Rattle.ci_change.specs.declared.batch.Batch.{Batch}
use Rattle.ci_journal.specs.declared.event.Event.{Event}
use Rattle.ci_journal.specs.Filings.{Filings, docs_out, file, nothing_filed}
use Rattle.ci_journal.specs.Tells.{Ending, Filed, tellings}
use Rattle.ci_journal.specs.Tells.Ending.{Through, Within, Back}
use Rattle.ci_journal.specs.Tells.Filed.{One, Begins, Ends}
use Rattle.ci_link.specs.declared.outcome.Talk.{Talk as Came}
use Rattle.ci_link.specs.declared.outcome.Talk.TheVariants.{Finished, Died}

-- the documents of a batch, and what the talk over them came to
pub record BatchTalk : Type 0 where
  pub docs : List (List ℕ × Seq)
  pub came : Came

abbrev pub batch_talk : List (List ℕ × Seq) → Came → BatchTalk
batch_talk docs came = record { docs = docs; came = came }

-- the talk that the end of a batch tells of, over these documents
abbrev pub talk_at_end : List (List ℕ × Seq) → Ending → List BatchTalk
talk_at_end docs (Through outcomes) = batch_talk docs (Finished outcomes) ∷ []
talk_at_end docs (Within charged) = batch_talk docs (Died charged) ∷ []
talk_at_end docs Back = []

-- where these batches are out
abbrev pub talk_in : List Batch → Filed → List BatchTalk
talk_in out (One filing) = []
talk_in out (Begins batch) = []
talk_in out (Ends number ending) = talk_at_end (docs_out out number) ending

-- the talks so far, and what was filed so far
pub record Heard : Type 0 where
  pub talks : List BatchTalk
  pub filings : Filings

abbrev pub hear : Heard → Filed → Heard
hear so_far filed = record {
  talks = so_far.talks ++ talk_in so_far.filings.out filed;
  filings = file so_far.filings filed;
}

abbrev pub heard : List Event → Heard
heard journal = fold hear (record { talks = []; filings = nothing_filed }) (tellings (λ t. t.filed) journal)

-- the talks of a journal, in order
abbrev pub talks : List Event → List BatchTalk
talks journal = (heard journal).talks
