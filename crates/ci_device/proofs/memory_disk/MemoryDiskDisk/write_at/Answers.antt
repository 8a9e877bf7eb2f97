use Rattle.std.proofs.Common.{◌≡◌, ◌∙◌, ap, length}
use Rattle.ci_device.specs.Memory.{DiskState}
use Rattle.ci_device.proofs.Left.{follows_from}
use Rattle.ci_device.proofs.memory_disk.MemoryDiskDisk.write_at.Goals as goal

pub returns-then-is_to_fail-clause-images : goal.returns-then-is_to_fail-clause-images
returns-then-is_to_fail-clause-images c =
    let platter : DiskState → _ = λ d. d.disk.platter in
    let same : c.self.inside.disk.platter ≡ c.args.self.now.disk.platter = ap platter (c.self.view_is ∙ c.is_to_fail.ensures.counted) in
    follows_from c.args.at (length c.args.bytes.now) c.self.inside.disk.platter c.args.self.now.disk.platter c.tear.new.self.platter same c.tear.ensures.images
