use Rattle.std.proofs.Common.{◌≡◌, [], length, ap, arith, ◌∙◌}
use Rattle.ci_volume.specs.Layout.{slot_of}
use Rattle.ci_volume.specs.Steps.{IsBlank, IsTornFrom}
use Rattle.ci_volume.proofs.Beginning.{blank_behind, run_behind, slot_filled}
use Rattle.ci_volume.proofs.Moments.{weakens}
use Rattle.ci_volume.proofs.first_steps.write_first_slot.Goals as goal

pub returns-in_err-write_stable-clause-any_moment : goal.returns-in_err-write_stable-clause-any_moment
returns-in_err-write_stable-clause-any_moment g c each =
    let at = c.slot_offset.result in
    let n = length c.write_slot.new.out in
    weakens g.D.Disk.moment g.D.Disk.left_since c.args.disk.now c.write_stable.new.disk (IsTornFrom (g.D.Disk.may_leave c.args.disk.now) at n) IsBlank
    (λ image from. blank_behind at n from.0 image from.2 (omega (arith, c.slot_offset.ensures)) (each from.0 from.1)) c.write_stable.ensures.any_moment

pub returns-clause-any_moment : goal.returns-clause-any_moment
returns-clause-any_moment g c each =
    let at = c.slot_offset.result in
    let n = length c.write_slot.new.out in
    weakens g.D.Disk.moment g.D.Disk.left_since c.args.disk.now c.write_stable.new.disk (IsTornFrom (g.D.Disk.may_leave c.args.disk.now) at n) IsBlank
    (λ image from. blank_behind at n from.0 image from.2 (omega (arith, c.slot_offset.ensures)) (each from.0 from.1)) c.write_stable.ensures.any_moment

pub returns-clause-ready : goal.returns-clause-ready
returns-clause-ready g c honest each root_pages root log root_data log_data root_run log_run =
    let at = c.slot_offset.result in
    let out = c.write_slot.new.out in
    let size : length out ≡ 20 = c.write_slot.auto.out in
    let new = c.write_stable.new.disk in
    let old_seen = g.D.Disk.seen c.args.disk.now in
    let seen = g.D.Disk.seen new in
    let torn = c.write_stable.ensures.others in
    let from = c.write_stable.ensures.images seen (g.D.Disk.seen_may_stay new) in
    let stable = c.in_ok-write_stable.ensures.stable honest in
    let reads : slot_of out ≡ c.args.slot = ap slot_of c.write_slot.ensures.bytes ∙ c.write_slot.ensures.read in
    let filled = slot_filled seen at c.args.slot out c.slot_offset.ensures stable.1 size reads in
    record {
      blank = blank_behind at (length out) from.0 seen from.2 (omega (arith, c.slot_offset.ensures)) (each from.0 from.1);
      within = filled.0;
      fields = filled.1;
      root = run_behind at (length out) old_seen seen torn (omega (arith, c.slot_offset.ensures, size)) root_pages root root_data root_run;
      log = run_behind at (length out) old_seen seen torn (omega (arith, c.slot_offset.ensures, size)) log [] log_data log_run;
    }
