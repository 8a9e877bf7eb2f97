use Rattle.std.proofs.Common.{◌≡◌, ◌++◌}
use Rattle.ci_documents.specs.Documents.{present}
use Rattle.ci_documents.proofs.documents.plain_list.Given as goal

abbrev pub invariant-loop-path : goal.invariant-loop-path
invariant-loop-path l = l.plain ++ present l.path-iterator ≡ present l.documents.entries
