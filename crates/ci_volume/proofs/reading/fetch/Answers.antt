use Rattle.ci_volume.proofs.Moments.{started, goes_on}
use Rattle.ci_volume.proofs.reading.fetch.Goals as goal

pub returns-clause-stays : goal.returns-clause-stays
returns-clause-stays g c =
    let old = c.args.disk.now in
    let new = c.read_at.new.self in
    let P = g.D.Disk.may_leave old in
    let begun = started g.D.Disk.moment g.D.Disk.left_since old P (λ image left. g.D.Disk.only_now old image left) in
    record {
      bytes = c.read_at.ensures.seen;
      images = c.read_at.ensures.images;
      any_moment = goes_on g.D.Disk.moment g.D.Disk.left_since old old new P _ begun c.read_at.ensures.moments c.read_at.ensures.images;
      honesty = c.read_at.ensures.honest;
    }
