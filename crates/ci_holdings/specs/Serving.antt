-- Documents of a batch whose outcomes are filed, one after the other.
use Rattle.std.specs.Prelude.{◌≡◌, ◌++◌, ℕ, Bool, nat_lt, List, [], ◌∷◌, if◌then◌else◌}
use Rattle.std.specs.FinMap as map_of_keys
use Rattle.ci_base.specs.declared.numbers.Seq.{Seq}
use Rattle.ci_change.specs.Charges.{with_charge, with_refusal}
use Rattle.ci_change.specs.HandedIn.{HandedIn, with_served}
use Rattle.ci_change.specs.Pending.{served_number}
use Rattle.ci_entry.specs.Entry.{entry_of}
use Rattle.ci_chunk.specs.declared.outcome.Outcome.{Outcome}
use Rattle.ci_chunk.specs.declared.outcome.Outcome.TheVariants as outcome
use Rattle.ci_documents.specs.Documents.{Serves, Standings}
use Rattle.ci_journal.specs.Terms.{Served}
use Rattle.ci_holdings.specs.declared.serving.Verdict.{Verdict}
use Rattle.ci_holdings.specs.declared.serving.Verdict.TheVariants.{Filtered, Failed, Refused}

-- what an outcome comes to: the entry of what was read, an attempt that failed, or a refusal
abbrev pub verdict_of : List (List ℕ) → Outcome → Verdict
verdict_of noise (outcome.Done transcript) = Filtered (entry_of noise transcript)
verdict_of noise (outcome.Failed status) = Failed
verdict_of noise (outcome.Refused status) = Refused

-- what became of a document is handed in: it was served, or a charge or a refusal
abbrev pub tell : HandedIn → List ℕ × Seq → Verdict → HandedIn
tell handed doc (Filtered entry) = with_served handed doc.0 doc.1
tell handed doc Failed = with_charge handed doc.0 doc.1
tell handed doc Refused = with_refusal handed doc.0 doc.1

-- of each document, in order
abbrev pub tell_all : HandedIn → List (List ℕ × Seq) → List Verdict → HandedIn
tell_all handed [] verdicts = handed
tell_all handed (doc ∷ docs) [] = handed
tell_all handed (doc ∷ docs) (verdict ∷ verdicts) = tell_all (tell handed doc verdict) docs verdicts

-- the path gets the entry, where its number is above the path's served number; one that wasn't
-- filtered keeps the entry that it has
abbrev pub settle : Served → List ℕ × Seq → Verdict → Served
settle served doc (Filtered entry) = record {
  numbers = served.numbers ++ doc ∷ [];
  documents = if nat_lt (served_number served.numbers doc.0) doc.1.0
      then map_of_keys.insert served.documents doc.0 entry
      else served.documents;
}
settle served doc _ = served

-- each document with its verdict, in order
abbrev pub settle_all : Served → List (List ℕ × Seq) → List Verdict → Served
settle_all served [] verdicts = served
settle_all served (doc ∷ docs) [] = served
settle_all served (doc ∷ docs) (verdict ∷ verdicts) =
    settle_all (settle served doc verdict) docs verdicts

-- the standing of a path, where its number counts, becomes the entry; or nothing changes
abbrev pub IsSettledBy : Standings → Standings → List ℕ → Bool → Verdict → Type 0
IsSettledBy old new path counts (Filtered entry) = Serves old new path counts entry
IsSettledBy old new path counts _ = new ≡ old
