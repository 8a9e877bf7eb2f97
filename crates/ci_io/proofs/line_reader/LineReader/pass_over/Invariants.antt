use Rattle.std.proofs.Common.{◌≡◌, ◌≤◌, ◌-◌}
use Rattle.ci_io.specs.Limits.{endless_bytes}
use Rattle.ci_io.proofs.LongLines.{IsPassing}
use Rattle.ci_io.proofs.line_reader.LineReader.pass_over.Given as goal

-- the beginning of the line was passed over, no further than an endless line goes, and no read failed
abbrev pub invariant-loop-passed : goal.invariant-loop-passed
invariant-loop-passed g l = record {
  passing : IsPassing l.fn.self l.self l.passed;
  bound : l.passed ≤ endless_bytes;
  count : l.self.faults ≡ l.fn.self.faults;
}

abbrev pub decreases-loop-passed : goal.decreases-loop-passed
decreases-loop-passed g l = endless_bytes - l.passed
