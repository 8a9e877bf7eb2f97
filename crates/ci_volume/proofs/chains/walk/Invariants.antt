use Rattle.std.proofs.Common.{◌≡◌, ◌≤◌, IsTrue, length}
use Rattle.ci_pages.specs.Tables.{AllData}
use Rattle.ci_volume.specs.Chain.{Leads}
use Rattle.ci_volume.specs.Steps.{Stays}
use Rattle.ci_volume.proofs.chains.walk.Given as goal

abbrev pub invariant-loop-step : goal.invariant-loop-step
invariant-loop-step g l = record {
  leads : IsTrue (g.D.Disk.honest l.initial.disk) → Leads (g.D.Disk.seen l.initial.disk) l.bounds.pages l.first l.chain.items l.page;
  count : length l.chain.items ≡ l._step;
  stays : Stays g.D.Disk.seen g.D.Disk.may_leave g.D.Disk.moment g.D.Disk.left_since g.D.Disk.honest l.initial.disk l.disk;
  data_pages : AllData l.bounds.pages l.chain.items;
  later : g.D.Disk.faults l.initial.disk ≤ g.D.Disk.faults l.disk;
}
