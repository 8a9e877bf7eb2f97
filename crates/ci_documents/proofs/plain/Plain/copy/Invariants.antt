use Rattle.std.proofs.Common.{◌≡◌, take}
use Rattle.ci_documents.proofs.plain.Plain.copy.Given as goal

abbrev pub invariant-loop-path : goal.invariant-loop-path
invariant-loop-path l = l.copied ≡ take l.path-index l.path-items
