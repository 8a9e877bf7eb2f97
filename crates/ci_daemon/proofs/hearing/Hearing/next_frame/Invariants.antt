use Rattle.std.proofs.Common.{◌≡◌, ◌-◌, length}
use Rattle.ci_daemon.specs.Hearing.{Feeds}
use Rattle.ci_daemon.proofs.hearing.Hearing.next_frame.Given as goal

-- what was taken since is held, and the source didn't fail
abbrev pub invariant-loop-frame : goal.invariant-loop-frame
invariant-loop-frame g l = record {
  fed : Feeds l.fn.self (g.S.Source.left l.fn.source) l.self (g.S.Source.left l.source);
  kept : g.S.Source.faults l.source ≡ g.S.Source.faults l.fn.source;
}

abbrev pub decreases-loop-frame : goal.decreases-loop-frame
decreases-loop-frame g l = 131083 - length l.self
