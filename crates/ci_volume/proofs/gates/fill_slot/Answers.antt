use Rattle.std.proofs.Common.{◌≡◌, length, refl, ◌∙◌, ap, arith, false}
use Rattle.ci_volume.specs.Layout.{slot_of}
use Rattle.ci_volume.specs.Steps.{IsTornFrom, StandsBeside}
use Rattle.ci_volume.proofs.Parts.{holds_behind}
use Rattle.ci_volume.proofs.Moments.{weakens}
use Rattle.ci_volume.proofs.Writes.{filled_from, written_from}
use Rattle.ci_volume.proofs.gates.fill_slot.Goals as goal

pub returns-in_err-write_stable-clause-any_moment : goal.returns-in_err-write_stable-clause-any_moment
returns-in_err-write_stable-clause-any_moment g c slot pages base before =
    let which = c.args.which in
    let at = c.slot_offset.result in
    let n = length c.write_slot.new.out in
    let size : n ≡ 20 = c.write_slot.auto.out in
    let images = g.D.Disk.may_leave c.args.disk.now in
    weakens g.D.Disk.moment g.D.Disk.left_since c.args.disk.now c.write_stable.new.disk (IsTornFrom images at n) (StandsBeside false which slot pages base)
    (λ image from. filled_from images at n which size c.requires image c.slot_offset.ensures slot pages base before from) c.write_stable.ensures.any_moment

pub returns-clause-any_moment : goal.returns-clause-any_moment
returns-clause-any_moment g c slot pages base before =
    let which = c.args.which in
    let at = c.slot_offset.result in
    let n = length c.write_slot.new.out in
    let size : n ≡ 20 = c.write_slot.auto.out in
    let images = g.D.Disk.may_leave c.args.disk.now in
    weakens g.D.Disk.moment g.D.Disk.left_since c.args.disk.now c.write_stable.new.disk (IsTornFrom images at n) (StandsBeside false which slot pages base)
    (λ image from. filled_from images at n which size c.requires image c.slot_offset.ensures slot pages base before from) c.write_stable.ensures.any_moment

pub returns-clause-written : goal.returns-clause-written
returns-clause-written g c honest slot pages base later before =
    let which = c.args.which in
    let at = c.slot_offset.result in
    let out = c.write_slot.new.out in
    let size : length out ≡ 20 = c.write_slot.auto.out in
    let new = c.write_stable.new.disk in
    let seen = g.D.Disk.seen new in
    let from = c.write_stable.ensures.images seen (g.D.Disk.seen_may_stay new) in
    let stable = c.in_ok-write_stable.ensures.stable honest in
    let reads : slot_of out ≡ c.args.next = ap slot_of c.write_slot.ensures.bytes ∙ c.write_slot.ensures.read in
    written_from (g.D.Disk.may_leave c.args.disk.now) at (length out) which size c.requires seen c.slot_offset.ensures slot c.args.next pages base out before from stable.1 refl reads later

pub returns-clause-kept : goal.returns-clause-kept
returns-clause-kept g c at bytes behind holds =
    let size : length c.write_slot.new.out ≡ 20 = c.write_slot.auto.out in
    holds_behind c.slot_offset.result (length c.write_slot.new.out) (g.D.Disk.seen c.args.disk.now) (g.D.Disk.seen c.write_stable.new.disk) at bytes c.write_stable.ensures.others (omega (arith, c.slot_offset.ensures, c.requires, behind, size)) holds

pub returns-clause-size : goal.returns-clause-size
returns-clause-size g c long =
    let torn = c.write_stable.ensures.others in
    let size : length c.write_slot.new.out ≡ 20 = c.write_slot.auto.out in
    omega (arith, torn.no_longer, torn.no_shorter, c.slot_offset.ensures, c.requires, size, long)
