use Rattle.ci_volume.proofs.Moments.{started, goes_on}
use Rattle.ci_volume.proofs.stable.make_stable.Goals as goal

pub returns-clause-any_moment : goal.returns-clause-any_moment
returns-clause-any_moment g c =
    let old = c.args.disk.now in
    let P = g.D.Disk.may_leave old in
    let begun = started g.D.Disk.moment g.D.Disk.left_since old P (λ image left. g.D.Disk.only_now old image left) in
    goes_on g.D.Disk.moment g.D.Disk.left_since old old c.sync.new.self P _ begun c.sync.ensures.moments c.sync.ensures.images
