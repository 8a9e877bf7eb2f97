use Rattle.std.proofs.Common.{arith, refl}
use Rattle.ci_device_rows.proofs.volumes.new_volume.Goals as goal

-- the root's page is the first of those that are held
pub returns-in-Ok-clause-held : goal.returns-in-Ok-clause-held
returns-in-Ok-clause-held c = c.in-Ok.ensures.held.each 3 (0, omega arith, refl)
