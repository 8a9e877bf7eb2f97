use Rattle.std.proofs.Common.{◌≡◌, ◌+◌, ℕ, List, length}
use Rattle.ci_pages.specs.Tables.{IsHeldChain}
use Rattle.ci_pages.proofs.Letting.{IsLetGo}
use Rattle.ci_pages.proofs.table.PageTable.let_go.Given as goal

abbrev pub invariant-loop-step : goal.invariant-loop-step
invariant-loop-step l = record {
  walked : (chain : List ℕ) → IsHeldChain l.initial.self.links.items l.initial.self.uses.pages.items l.first chain
      → IsLetGo l.initial.self.uses.pages.items l.self.uses.pages.items chain l._step l.page;
  count : length l.self.leaving.items ≡ length l.initial.self.leaving.items + l._step;
  links : l.self.links.items ≡ l.initial.self.links.items;
  pending : l.self.pending.items ≡ l.initial.self.pending.items;
}
