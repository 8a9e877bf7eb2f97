use Rattle.std.proofs.Common.{◌≡◌, ◌+◌, ℕ, IsTrue, List, true, drop, length, All}
use Rattle.ci_base.specs.declared.numbers.Seq.{Seq}
use Rattle.ci_change.specs.HandedIn.{is_known}
use Rattle.ci_documents.specs.Documents.{StandFor, has_place}
use Rattle.ci_journal.specs.Terms.{Served}
use Rattle.ci_holdings.specs.Serving.{tell_all}
use Rattle.ci_holdings.proofs.ServingLemmas.{IsOnTheWay}
use Rattle.ci_holdings.proofs.serving.settle_all.Given as goal

abbrev pub invariant-loop-path : goal.invariant-loop-path
invariant-loop-path l = record {
  each : length l.docs ≡ l.path-index + length l.verdicts.items;
  known : All (λ (doc : List ℕ × Seq). IsTrue (is_known l.changes doc.0)) l.docs;
  told : tell_all l.changes (drop l.path-index l.docs) l.verdicts.items ≡ tell_all l.initial.changes l.docs l.initial.verdicts.items;
  places : All (λ (doc : List ℕ × Seq). has_place l.documents.entries doc.0 ≡ true) l.docs;
  way : (served : Served) → served.numbers ≡ l.initial.changes.served → StandFor served.documents l.initial.documents.entries →
      IsOnTheWay served l.docs l.initial.verdicts.items l.changes l.documents.entries (drop l.path-index l.docs) l.verdicts.items;
}
