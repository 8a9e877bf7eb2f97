use Rattle.std.proofs.Common.{◌≡◌, ◌+◌, ◌-◌, ◌≤◌, true, length, take}
use Rattle.ci_io.specs.Limits.{line_bytes}
use Rattle.ci_io.specs.Lines.{HasNoFeed}
use Rattle.ci_io.specs.Reading.{Gathers, LeavesSource}
use Rattle.ci_io.proofs.line_reader.LineReader.find_end.Given as goal

-- the front that was searched has no line feed
abbrev pub invariant-loop-feed : goal.invariant-loop-feed
invariant-loop-feed g l = record {
  gathered : Gathers l.initial.self l.self;
  within : l.searched ≤ length l.self.held;
  searched : HasNoFeed (take l.searched l.self.held);
  count : l.self.faults ≡ l.initial.self.faults;
  ended : l.self.ended ≡ l.initial.self.ended;
  unasked : l.initial.self.ended ≡ true → LeavesSource l.initial.self l.self;
}

abbrev pub decreases-loop-feed : goal.decreases-loop-feed
decreases-loop-feed g l = line_bytes + 1 - length l.self.held
