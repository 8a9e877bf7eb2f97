use Rattle.std.proofs.Common.{◌≡◌, take, sum_by}
use Rattle.ci_journal.specs.Bytes.{capped, outcome_bytes}
use Rattle.ci_journal.proofs.counted.done_bytes.Given as goal

abbrev pub invariant-loop-outcome : goal.invariant-loop-outcome
invariant-loop-outcome l = l.len ≡ capped (sum_by outcome_bytes (take l.outcome-index l.outcomes))
