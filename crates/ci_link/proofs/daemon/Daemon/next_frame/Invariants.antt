use Rattle.std.proofs.Common.{◌-◌, ℕ, List, length}
use Rattle.ci_link.specs.Line.{Receives}
use Rattle.ci_link.proofs.daemon.Daemon.next_frame.Given as goal

-- what was received since is held
abbrev pub invariant-loop-frame : goal.invariant-loop-frame
invariant-loop-frame g l = (received : List ℕ) × Receives l.fn.self l.self received

abbrev pub decreases-loop-frame : goal.decreases-loop-frame
decreases-loop-frame g l = 131083 - length l.self.fed.bytes
