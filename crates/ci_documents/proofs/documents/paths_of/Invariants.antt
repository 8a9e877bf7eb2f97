use Rattle.std.proofs.Common.{◌≡◌, ◌++◌, List, ℕ, map}
use Rattle.ci_keys.specs.Entry.{EntryLists}
use Rattle.ci_documents.specs.Documents.{present}
use Rattle.ci_documents.proofs.documents.paths_of.Given as goal

abbrev pub invariant-loop-path : goal.invariant-loop-path
invariant-loop-path l = l.paths ++ map (λ (d : List ℕ × EntryLists). d.0) (present l.path-iterator) ≡ map (λ (d : List ℕ × EntryLists). d.0) (present l.documents.entries)
