use Rattle.ci_volume.proofs.Moments.{started, goes_on}
use Rattle.ci_volume.proofs.reading.measure.Goals as goal

pub returns-clause-stays : goal.returns-clause-stays
returns-clause-stays g c =
    let old = c.args.disk.now in
    let new = c.length.new.self in
    let P = g.D.Disk.may_leave old in
    let begun = started g.D.Disk.moment g.D.Disk.left_since old P (λ image left. g.D.Disk.only_now old image left) in
    record {
      bytes = c.length.ensures.seen;
      images = c.length.ensures.images;
      any_moment = goes_on g.D.Disk.moment g.D.Disk.left_since old old new P _ begun c.length.ensures.moments c.length.ensures.images;
      honesty = c.length.ensures.honest;
    }
