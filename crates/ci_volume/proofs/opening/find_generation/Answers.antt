use Rattle.std.proofs.Common.{MatchOption, subst}
use Rattle.ci_volume.specs.Found.{HasNone, IsTold}
use Rattle.ci_volume.proofs.opening.find_generation.Goals as goal

pub returns-in-None-clause-nothing : goal.returns-in-None-clause-nothing
returns-in-None-clause-nothing g c refused honest which slot root opens =
    let seen = g.D.Disk.seen c.args.disk.now in
    let found = c.in_ok-find_current.ensures.ok honest in
    let none : HasNone seen = subst (λ told. MatchOption told (HasNone seen) (IsTold seen)) c.in-None.is found in
    none which slot opens.number opens.current
