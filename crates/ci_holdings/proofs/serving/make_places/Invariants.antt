use Rattle.std.proofs.Common.{◌≡◌, ℕ, List, true, take, All}
use Rattle.ci_base.specs.declared.numbers.Seq.{Seq}
use Rattle.ci_documents.specs.Documents.{KeepsEntries, has_place}
use Rattle.ci_holdings.proofs.serving.make_places.Given as goal

abbrev pub invariant-loop-path : goal.invariant-loop-path
invariant-loop-path l =
    KeepsEntries l.initial.documents.entries l.documents.entries
    × All (λ (doc : List ℕ × Seq). has_place l.documents.entries doc.0 ≡ true) (take l.path-index l.docs)
