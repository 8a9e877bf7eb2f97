use Rattle.std.proofs.Common.{List, ℕ, subst, sym, ◌∙◌}
use Rattle.ci_volume.specs.Creation.{FreshOrFounded, IsFounded}
use Rattle.ci_volume.proofs.Moments.{behind, joins, weakens}
use Rattle.ci_volume.proofs.founding.found_volume.Goals as goal

pub returns-in_err-size-clause-any_moment : goal.returns-in_err-size-clause-any_moment
returns-in_err-size-clause-any_moment g c honest each =
    let plan = c.args.plan in
    let mid = c.write_volume.new.disk in
    let new = c.measure.new.disk in
    let Q : List ℕ → Type 0 = FreshOrFounded plan.slot plan.root_pages.now plan.root.now plan.log.now in
    let so_far = c.write_volume.ensures.any_moment honest each in
    let stands = behind g.D.Disk.moment g.D.Disk.left_since g.D.Disk.may_leave g.D.Disk.counts_now c.args.disk.now mid Q so_far in
    joins g.D.Disk.moment g.D.Disk.left_since c.args.disk.now mid new Q so_far
    (weakens g.D.Disk.moment g.D.Disk.left_since mid new (g.D.Disk.may_leave mid) Q stands c.measure.ensures.stays.any_moment)

pub returns-clause-any_moment : goal.returns-clause-any_moment
returns-clause-any_moment g c honest each =
    let plan = c.args.plan in
    let mid = c.write_volume.new.disk in
    let new = c.measure.new.disk in
    let Q : List ℕ → Type 0 = FreshOrFounded plan.slot plan.root_pages.now plan.root.now plan.log.now in
    let so_far = c.write_volume.ensures.any_moment honest each in
    let stands = behind g.D.Disk.moment g.D.Disk.left_since g.D.Disk.may_leave g.D.Disk.counts_now c.args.disk.now mid Q so_far in
    joins g.D.Disk.moment g.D.Disk.left_since c.args.disk.now mid new Q so_far
    (weakens g.D.Disk.moment g.D.Disk.left_since mid new (g.D.Disk.may_leave mid) Q stands c.measure.ensures.stays.any_moment)

pub returns-clause-acknowledged : goal.returns-clause-acknowledged
returns-clause-acknowledged g c honest =
    let plan = c.args.plan in
    subst (λ (image : List ℕ). IsFounded plan.slot plan.root_pages.now plan.root.now plan.log.now image) (sym c.measure.ensures.stays.bytes) (c.in_ok-write_volume.ensures.acknowledged honest)

pub returns-clause-stable : goal.returns-clause-stable
returns-clause-stable g c honest image left =
    c.in_ok-write_volume.ensures.stable honest image (c.measure.ensures.stays.images image left) ∙ sym c.measure.ensures.stays.bytes
