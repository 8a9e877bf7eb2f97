use Rattle.std.proofs.Common.{◌∙◌, subst}
use Rattle.std.specs.Prelude.{Contains}
use Rattle.ci_device_rows.proofs.volumes.committed.Goals as goal

-- the root's pages were held when the volume was opened, and neither call lets one go
pub commit-requires-clause-held : goal.commit-requires-clause-held
commit-requires-clause-held g c page within =
    let root = c.in-Ok-reserve_pages.ensures.place.4 ∙ c.in-Ok-hold.ensures.place.4 in
    c.in-Ok-reserve_pages.ensures.held page (c.in-Ok-hold.ensures.held page (c.in-Ok.ensures.held.each page (subst (λ pages. Contains pages page) root within)))
