use Rattle.std.proofs.Common.{◌≡◌, take}
use Rattle.ci_change.proofs.docs.Docs.copy.Given as goal

abbrev pub invariant-loop-path : goal.invariant-loop-path
invariant-loop-path l = l.copied ≡ take l.path-index l.path-items
