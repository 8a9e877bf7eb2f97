use Rattle.std.proofs.Common.{◌≡◌, take}
use Rattle.ci_keys.proofs.postings.copy_postings.Given as goal

abbrev pub invariant-loop-doc : goal.invariant-loop-doc
invariant-loop-doc l = l.copied.items ≡ take l.doc-index l.postings
