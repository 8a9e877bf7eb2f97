use Rattle.std.proofs.Common.{arith, refl}
use Rattle.ci_device_rows.proofs.patches.patch_log.Goals as goal

-- the page is the first of the log's
pub patch-said-requires-clause-held : goal.patch-said-requires-clause-held
patch-said-requires-clause-held c = c.in_ok-volume.ensures.log.held 4 (0, omega arith, refl)
