use Rattle.std.proofs.Common.{◌≡◌, take}
use Rattle.ci_chunk.proofs.outcome.Outcomes.copy.Given as goal

abbrev pub invariant-loop-outcome : goal.invariant-loop-outcome
invariant-loop-outcome l = l.copied ≡ take l.outcome-index l.outcome-items
