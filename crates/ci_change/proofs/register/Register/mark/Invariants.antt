use Rattle.std.proofs.Common.{take}
use Rattle.ci_change.specs.Pending.{has_path}
use Rattle.ci_change.specs.Register.{Marks}
use Rattle.ci_change.proofs.register.Register.mark.Given as goal

-- the paths of the documents so far are marked
abbrev pub invariant-loop-path : goal.invariant-loop-path
invariant-loop-path l = Marks l.initial.self l.self (has_path (take l.path-index l.docs)) l.is_out
