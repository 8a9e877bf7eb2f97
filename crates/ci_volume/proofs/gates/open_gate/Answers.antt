use Rattle.std.proofs.Common.{◌≡◌, ℕ, slice_index, subst, arith}
use Rattle.ci_volume.specs.Steps.{IsTornFrom, StandsEither}
use Rattle.ci_volume.proofs.Parts.{holds_behind}
use Rattle.ci_volume.proofs.Moments.{weakens}
use Rattle.ci_volume.proofs.Writes.{held_byte, older_from, opens_from, opened_from}
use Rattle.ci_volume.proofs.gates.open_gate.Goals as goal

pub returns-in_err-write_stable-clause-any_moment : goal.returns-in_err-write_stable-clause-any_moment
returns-in_err-write_stable-clause-any_moment g c slot next pages base before =
    let which = c.args.which in
    let at = c.gate_offset.result in
    let images = g.D.Disk.may_leave c.args.disk.now in
    weakens g.D.Disk.moment g.D.Disk.left_since c.args.disk.now c.write_stable.new.disk (IsTornFrom images at 1) (StandsEither which slot next pages base)
    (λ image from. opens_from images at which c.requires image c.gate_offset.ensures slot next pages base before from) c.write_stable.ensures.any_moment

pub returns-clause-any_moment : goal.returns-clause-any_moment
returns-clause-any_moment g c slot next pages base before =
    let which = c.args.which in
    let at = c.gate_offset.result in
    let images = g.D.Disk.may_leave c.args.disk.now in
    weakens g.D.Disk.moment g.D.Disk.left_since c.args.disk.now c.write_stable.new.disk (IsTornFrom images at 1) (StandsEither which slot next pages base)
    (λ image from. opens_from images at which c.requires image c.gate_offset.ensures slot next pages base before from) c.write_stable.ensures.any_moment

pub returns-clause-acknowledged : goal.returns-clause-acknowledged
returns-clause-acknowledged g c honest slot next pages base before =
    let at = c.gate_offset.result in
    let new = c.write_stable.new.disk in
    let seen = g.D.Disk.seen new in
    let from = c.write_stable.ensures.images seen (g.D.Disk.seen_may_stay new) in
    let stable = c.in_ok-write_stable.ensures.stable honest in
    let is_open = subst (λ (i : ℕ). slice_index seen i ≡ 90) c.gate_offset.ensures (held_byte seen at 90 stable.1) in
    opened_from (g.D.Disk.may_leave c.args.disk.now) at c.args.which c.requires seen c.gate_offset.ensures slot next pages base before from is_open

pub returns-clause-older : goal.returns-clause-older
returns-clause-older g c honest slot next pages base before =
    let new = c.write_stable.new.disk in
    let seen = g.D.Disk.seen new in
    let from = c.write_stable.ensures.images seen (g.D.Disk.seen_may_stay new) in
    older_from (g.D.Disk.may_leave c.args.disk.now) c.gate_offset.result c.args.which c.requires seen c.gate_offset.ensures slot next pages base before from

pub returns-clause-kept : goal.returns-clause-kept
returns-clause-kept g c at bytes behind holds =
    holds_behind c.gate_offset.result 1 (g.D.Disk.seen c.args.disk.now) (g.D.Disk.seen c.write_stable.new.disk) at bytes c.write_stable.ensures.others (omega (arith, c.gate_offset.ensures, c.requires, behind)) holds

pub returns-clause-size : goal.returns-clause-size
returns-clause-size g c long =
    let torn = c.write_stable.ensures.others in
    omega (arith, torn.no_longer, torn.no_shorter, c.gate_offset.ensures, c.requires, long)
