use Rattle.std.proofs.Common.{◌≡◌, ◌+◌, ◌*◌, ◌<◌, ℕ, IsTrue, get_or, length}
use Rattle.ci_device.specs.Images.{Holds}
use Rattle.ci_device.specs.Time.{LeavesOnly}
use Rattle.ci_volume.specs.Layout.{part}
use Rattle.ci_volume.specs.Runs.{page_of}
use Rattle.ci_volume.specs.Steps.{IsSparedFrom, SparesOthers}
use Rattle.ci_volume.proofs.writing.write_pages.Given as goal

abbrev pub invariant-loop-at : goal.invariant-loop-at
invariant-loop-at g l = record {
  ok : IsTrue (g.D.Disk.honest l.initial.disk) → (i : ℕ) → i < l.at
      → Holds (g.D.Disk.seen l.disk) (4096 * get_or l.pages i 0) (page_of (get_or l.pages (i + 1) 0) (part l.bytes (4092 * i) 4092));
  moments : LeavesOnly g.D.Disk.moment g.D.Disk.left_since l.initial.disk l.disk (IsSparedFrom (g.D.Disk.may_leave l.initial.disk) l.pages);
  others : SparesOthers l.pages (g.D.Disk.seen l.initial.disk) (g.D.Disk.seen l.disk);
  honesty : g.D.Disk.honest l.disk ≡ g.D.Disk.honest l.initial.disk;
  faults : g.D.Disk.faults l.disk ≡ g.D.Disk.faults l.initial.disk;
  size : length l.buffer ≡ 4096;
}
