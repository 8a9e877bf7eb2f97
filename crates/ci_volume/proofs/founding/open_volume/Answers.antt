use Rattle.std.proofs.Common.{List, ℕ, IsTrue, inl, ◌∙◌}
use Rattle.ci_volume.specs.Creation.{BlankOrFounded, IsReady}
use Rattle.ci_volume.specs.Steps.{IsBlank}
use Rattle.ci_volume.proofs.Moments.{joins, weakens}
use Rattle.ci_volume.proofs.Steps.{each_of}
use Rattle.ci_volume.proofs.founding.open_volume.Goals as goal

pub returns-in_err-write_first_slot-clause-any_moment : goal.returns-in_err-write_first_slot-clause-any_moment
returns-in_err-write_first_slot-clause-any_moment g c honest each root_run log_run =
    let plan = c.args.plan in
    let Q : List ℕ → Type 0 = BlankOrFounded plan.slot plan.root_pages.now plan.root.now plan.log.now in
    weakens g.D.Disk.moment g.D.Disk.left_since c.args.disk.now c.write_first_slot.new.disk IsBlank Q (λ image blank. inl blank) (c.write_first_slot.ensures.any_moment each)

pub returns-in_err-open_first_gate-clause-any_moment : goal.returns-in_err-open_first_gate-clause-any_moment
returns-in_err-open_first_gate-clause-any_moment g c honest each root_run log_run =
    let plan = c.args.plan in
    let old = c.args.disk.now in
    let mid = c.write_first_slot.new.disk in
    let Q : List ℕ → Type 0 = BlankOrFounded plan.slot plan.root_pages.now plan.root.now plan.log.now in
    let R : List ℕ → Type 0 = IsReady plan.slot plan.root_pages.now plan.root.now plan.log.now in
    let first = weakens g.D.Disk.moment g.D.Disk.left_since old mid IsBlank Q (λ image blank. inl blank) (c.write_first_slot.ensures.any_moment each) in
    let ready = each_of (g.D.Disk.may_leave mid) (g.D.Disk.seen mid) (c.in_ok-write_first_slot.ensures.stable honest) R
    (c.in_ok-write_first_slot.ensures.ready honest each plan.root_pages.now plan.root.now plan.log.now plan.root_data plan.log_data root_run log_run) in
    joins g.D.Disk.moment g.D.Disk.left_since old mid c.open_first_gate.new.disk Q first
    (c.open_first_gate.ensures.any_moment plan.slot plan.root_pages.now plan.root.now plan.log.now plan.root_data plan.log_data ready)

pub returns-clause-any_moment : goal.returns-clause-any_moment
returns-clause-any_moment g c honest each root_run log_run =
    let plan = c.args.plan in
    let old = c.args.disk.now in
    let mid = c.write_first_slot.new.disk in
    let Q : List ℕ → Type 0 = BlankOrFounded plan.slot plan.root_pages.now plan.root.now plan.log.now in
    let R : List ℕ → Type 0 = IsReady plan.slot plan.root_pages.now plan.root.now plan.log.now in
    let first = weakens g.D.Disk.moment g.D.Disk.left_since old mid IsBlank Q (λ image blank. inl blank) (c.write_first_slot.ensures.any_moment each) in
    let ready = each_of (g.D.Disk.may_leave mid) (g.D.Disk.seen mid) (c.in_ok-write_first_slot.ensures.stable honest) R
    (c.in_ok-write_first_slot.ensures.ready honest each plan.root_pages.now plan.root.now plan.log.now plan.root_data plan.log_data root_run log_run) in
    joins g.D.Disk.moment g.D.Disk.left_since old mid c.open_first_gate.new.disk Q first
    (c.open_first_gate.ensures.any_moment plan.slot plan.root_pages.now plan.root.now plan.log.now plan.root_data plan.log_data ready)

pub returns-clause-acknowledged : goal.returns-clause-acknowledged
returns-clause-acknowledged g c honest each root_run log_run =
    let plan = c.args.plan in
    let mid = c.write_first_slot.new.disk in
    let R : List ℕ → Type 0 = IsReady plan.slot plan.root_pages.now plan.root.now plan.log.now in
    let honest_mid : IsTrue (g.D.Disk.honest mid) = c.write_first_slot.ensures.honest ∙ honest in
    let ready = each_of (g.D.Disk.may_leave mid) (g.D.Disk.seen mid) (c.in_ok-write_first_slot.ensures.stable honest) R
    (c.in_ok-write_first_slot.ensures.ready honest each plan.root_pages.now plan.root.now plan.log.now plan.root_data plan.log_data root_run log_run) in
    c.in_ok-open_first_gate.ensures.acknowledged honest_mid plan.slot plan.root_pages.now plan.root.now plan.log.now plan.root_data plan.log_data ready
