use Rattle.std.proofs.Common.{◌≡◌, ℕ, ◌-◌, List, Bool, true, slice_index, sym, ◌∙◌, subst, arith}
use Rattle.ci_volume.specs.Steps.{EachLeft, IsTornFrom, Stands, StandsBeside}
use Rattle.ci_volume.specs.declared.slot.Slot.{Slot}
use Rattle.ci_volume.proofs.Parts.{holds_behind}
use Rattle.ci_volume.proofs.Moments.{weakens}
use Rattle.ci_volume.proofs.Writes.{held_byte, shut_from}
use Rattle.ci_volume.proofs.gates.shut_gate.Goals as goal

-- the gate may be open
at_open : (images : List ℕ → Type 0) (may_be_open : Bool) (which : ℕ) (slot : Slot) (pages base : List ℕ) → may_be_open ≡ true
    → EachLeft images (StandsBeside may_be_open which slot pages base) → EachLeft images (StandsBeside true which slot pages base)
at_open images may_be_open which slot pages base is_open each image left =
    subst (λ (b : Bool). StandsBeside b which slot pages base image) is_open (each image left)

pub returns-in_err-write_stable-clause-any_moment : goal.returns-in_err-write_stable-clause-any_moment
returns-in_err-write_stable-clause-any_moment g c slot pages base before =
    let which = c.args.which in
    let at = c.gate_offset.result in
    let images = g.D.Disk.may_leave c.args.disk.now in
    let each = at_open images c.args.may_be_open which slot pages base c.if-not-may_be_open.false before in
    weakens g.D.Disk.moment g.D.Disk.left_since c.args.disk.now c.write_stable.new.disk (IsTornFrom images at 1) (Stands (1 - which) slot pages base)
    (λ image from. shut_from images at which c.requires image c.gate_offset.ensures slot pages base each from) c.write_stable.ensures.any_moment

pub returns-clause-any_moment : goal.returns-clause-any_moment
returns-clause-any_moment g c slot pages base before =
    let which = c.args.which in
    let at = c.gate_offset.result in
    let images = g.D.Disk.may_leave c.args.disk.now in
    let each = at_open images c.args.may_be_open which slot pages base c.if-not-may_be_open.false before in
    weakens g.D.Disk.moment g.D.Disk.left_since c.args.disk.now c.write_stable.new.disk (IsTornFrom images at 1) (Stands (1 - which) slot pages base)
    (λ image from. shut_from images at which c.requires image c.gate_offset.ensures slot pages base each from) c.write_stable.ensures.any_moment

pub returns-clause-shut : goal.returns-clause-shut
returns-clause-shut g c honest slot pages base before is_open =
    let at = c.gate_offset.result in
    let seen = g.D.Disk.seen c.write_stable.new.disk in
    let stable = c.in_ok-write_stable.ensures.stable honest in
    let zero = subst (λ (i : ℕ). slice_index seen i ≡ 0) c.gate_offset.ensures (held_byte seen at 0 stable.1) in
    let no : 0 ≡ 90 = sym zero ∙ is_open in
    absurd (omega (arith, no))

pub returns-clause-kept : goal.returns-clause-kept
returns-clause-kept g c at bytes behind holds =
    holds_behind c.gate_offset.result 1 (g.D.Disk.seen c.args.disk.now) (g.D.Disk.seen c.write_stable.new.disk) at bytes c.write_stable.ensures.others (omega (arith, c.gate_offset.ensures, c.requires, behind)) holds

pub returns-clause-size : goal.returns-clause-size
returns-clause-size g c long =
    let torn = c.write_stable.ensures.others in
    omega (arith, torn.no_longer, torn.no_shorter, c.gate_offset.ensures, c.requires, long)
