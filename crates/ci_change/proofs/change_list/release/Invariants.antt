use Rattle.std.proofs.Common.{false, take}
use Rattle.ci_change.specs.HandedIn.{numbered}
use Rattle.ci_change.specs.Pending.{is_out}
use Rattle.ci_change.specs.Register.{Marks}
use Rattle.ci_change.proofs.change_list.release.Given as goal

-- the paths of the batches so far that have the number are marked
abbrev pub invariant-loop-batch : goal.invariant-loop-batch
invariant-loop-batch l = Marks l.initial.register l.register (is_out (numbered l.number (take l.batch-index l.out))) false
