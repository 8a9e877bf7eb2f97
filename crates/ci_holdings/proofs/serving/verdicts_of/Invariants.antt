use Rattle.std.proofs.Common.{◌≡◌, map, take}
use Rattle.ci_holdings.specs.Serving.{verdict_of}
use Rattle.ci_holdings.proofs.serving.verdicts_of.Given as goal

abbrev pub invariant-loop-outcome : goal.invariant-loop-outcome
invariant-loop-outcome l = l.verdicts.items ≡ map (verdict_of l.noise) (take l.outcome-index l.outcomes)
