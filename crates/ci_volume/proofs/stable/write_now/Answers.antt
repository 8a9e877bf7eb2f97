use Rattle.std.proofs.Common.{ℕ, List, length}
use Rattle.ci_volume.specs.Steps.{IsTornFrom}
use Rattle.ci_volume.proofs.Moments.{started, goes_on}
use Rattle.ci_volume.proofs.Parts.{untouched}
use Rattle.ci_volume.proofs.stable.write_now.Goals as goal

pub returns-clause-any_moment : goal.returns-clause-any_moment
returns-clause-any_moment g c =
    let at = c.args.at in
    let n = length c.args.bytes.now in
    let old = c.args.disk.now in
    let P : List ℕ → Type 0 = IsTornFrom (g.D.Disk.may_leave old) at n in
    let begun = started g.D.Disk.moment g.D.Disk.left_since old P (λ image left. (image, g.D.Disk.only_now old image left, untouched at n image)) in
    goes_on g.D.Disk.moment g.D.Disk.left_since old old c.write_at.new.self P _ begun c.write_at.ensures.moments c.write_at.ensures.images
