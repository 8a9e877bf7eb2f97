use Rattle.std.proofs.Common.{subst}
use Rattle.ci_device.specs.Memory.{SureDiskState, IsLeft}
use Rattle.ci_device.proofs.Left.{picked_left}
use Rattle.ci_device.proofs.sure_memory_disk.SureMemoryDisk.left.Goals as goal

pub returns-clause-left : goal.returns-clause-left
returns-clause-left c =
    let image = c.in_ok-image.image in
    let left : IsLeft c.self.inside.platter image = picked_left c.self.inside.platter c.args.pick image c.in_ok-image.ensures in
    subst (λ (d : SureDiskState). IsLeft d.platter image) c.self.view_is left
