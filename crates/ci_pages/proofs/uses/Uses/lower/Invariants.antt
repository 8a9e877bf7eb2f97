use Rattle.std.proofs.Common.{◌≡◌}
use Rattle.ci_pages.proofs.uses.Uses.lower.Given as goal

abbrev pub invariant-loop-block : goal.invariant-loop-block
invariant-loop-block l = l.self.pages.items ≡ l.initial.self.pages.items
