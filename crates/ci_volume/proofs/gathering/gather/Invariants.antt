use Rattle.std.proofs.Common.{◌≡◌, ◌≤◌, ℕ, List, IsTrue, length}
use Rattle.std.specs.List.{flat_map}
use Rattle.ci_volume.specs.Chain.{Leads, content_of}
use Rattle.ci_volume.specs.Steps.{Stays}
use Rattle.ci_volume.proofs.gathering.gather.Given as goal

abbrev pub invariant-loop-step : goal.invariant-loop-step
invariant-loop-step g l = record {
  read : IsTrue (g.D.Disk.honest l.initial.disk) → (front : List ℕ) × Leads (g.D.Disk.seen l.initial.disk) l.bounds.pages l.first front l.page
      × (length front ≡ l._step) × (l.bytes.items ≡ flat_map (content_of (g.D.Disk.seen l.initial.disk)) front);
  stays : Stays g.D.Disk.seen g.D.Disk.may_leave g.D.Disk.moment g.D.Disk.left_since g.D.Disk.honest l.initial.disk l.disk;
  later : g.D.Disk.faults l.initial.disk ≤ g.D.Disk.faults l.disk;
  size : length l.buffer ≡ 4096;
}
