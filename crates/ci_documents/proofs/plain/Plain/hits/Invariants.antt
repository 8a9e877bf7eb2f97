use Rattle.std.proofs.Common.{◌≡◌, take}
use Rattle.ci_journal.specs.Served.{hits_in}
use Rattle.ci_documents.proofs.plain.Plain.hits.Given as goal

abbrev pub invariant-loop-path : goal.invariant-loop-path
invariant-loop-path l = l.hits ≡ hits_in l.tree (take l.path-index l.path-items)
