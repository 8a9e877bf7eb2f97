use Rattle.std.proofs.Common.{ℕ, ◌≡◌, slice_index, subst}
use Rattle.ci_device.specs.Images.{Torn}
use Rattle.ci_volume.specs.Creation.{BlankOrFounded}
use Rattle.ci_volume.specs.Steps.{IsTornFrom}
use Rattle.ci_volume.proofs.Beginning.{blank_or_founded, founded}
use Rattle.ci_volume.proofs.Moments.{weakens}
use Rattle.ci_volume.proofs.Writes.{held_byte}
use Rattle.ci_volume.proofs.first_steps.open_first_gate.Goals as goal

pub returns-in_err-write_stable-clause-any_moment : goal.returns-in_err-write_stable-clause-any_moment
returns-in_err-write_stable-clause-any_moment g c slot root_pages root log root_data log_data each =
    let images = g.D.Disk.may_leave c.args.disk.now in
    weakens g.D.Disk.moment g.D.Disk.left_since c.args.disk.now c.write_stable.new.disk (IsTornFrom images c.gate_offset.result 1) (BlankOrFounded slot root_pages root log)
    (λ image from. blank_or_founded slot root_pages root log root_data log_data from.0 image (subst (λ (i : ℕ). Torn i 1 from.0 image) c.gate_offset.ensures from.2) (each from.0 from.1))
    c.write_stable.ensures.any_moment

pub returns-clause-any_moment : goal.returns-clause-any_moment
returns-clause-any_moment g c slot root_pages root log root_data log_data each =
    let images = g.D.Disk.may_leave c.args.disk.now in
    weakens g.D.Disk.moment g.D.Disk.left_since c.args.disk.now c.write_stable.new.disk (IsTornFrom images c.gate_offset.result 1) (BlankOrFounded slot root_pages root log)
    (λ image from. blank_or_founded slot root_pages root log root_data log_data from.0 image (subst (λ (i : ℕ). Torn i 1 from.0 image) c.gate_offset.ensures from.2) (each from.0 from.1))
    c.write_stable.ensures.any_moment

pub returns-clause-acknowledged : goal.returns-clause-acknowledged
returns-clause-acknowledged g c honest slot root_pages root log root_data log_data each =
    let new = c.write_stable.new.disk in
    let seen = g.D.Disk.seen new in
    let from = c.write_stable.ensures.images seen (g.D.Disk.seen_may_stay new) in
    let stable = c.in_ok-write_stable.ensures.stable honest in
    let is_open = subst (λ (i : ℕ). slice_index seen i ≡ 90) c.gate_offset.ensures (held_byte seen c.gate_offset.result 90 stable.1) in
    founded slot root_pages root log root_data log_data from.0 seen (subst (λ (i : ℕ). Torn i 1 from.0 seen) c.gate_offset.ensures from.2) (each from.0 from.1) is_open
