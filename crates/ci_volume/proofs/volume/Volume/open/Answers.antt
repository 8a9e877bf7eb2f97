use Rattle.std.proofs.Common.{Contains, subst}
use Rattle.ci_volume.proofs.volume.Volume.open.Goals as goal

pub prepare-requires-clause-data_pages : goal.prepare-requires-clause-data_pages
prepare-requires-clause-data_pages g c page contained =
    c.in-Ok.ensures.data_pages page (subst (λ xs. Contains xs page) c.deref.ensures.value contained)
