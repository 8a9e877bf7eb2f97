use Rattle.std.proofs.Common.{ap, arith, refl}
use Rattle.ci_pages.specs.Tables.{is_held}
use Rattle.ci_pages.proofs.Lists.{passes_within}
use Rattle.ci_volume.proofs.volume.Volume.patch.Goals as goal

pub write_now-requires : goal.write_now-requires
write_now-requires g c =
    let uses = c.args.self.now.table.uses.pages.items in
    omega (arith, passes_within is_held uses c.args.page refl (ap is_held c.requires.held), c.requires.fits, c.args.self.now.table.uses.small)
