use Rattle.std.proofs.Common.{◌≡◌, take}
use Rattle.ci_dialect.proofs.restriction.+copies.Given as goal

abbrev pub invariant-copy_all-loop-one : goal.invariant-copy_all-loop-one
invariant-copy_all-loop-one l = l.copied ≡ take l.one-index l.all
