use Rattle.std.proofs.Common.{◌-◌, ℕ, List, Bool, IsTrue, false, sym, subst, arith, ◌∙◌}
use Rattle.ci_volume.specs.Steps.{IsWritten, Stands, StandsBeside}
use Rattle.ci_volume.proofs.Moments.{behind, joins, weakens}
use Rattle.ci_volume.proofs.Steps.{each_of, each_shut}
use Rattle.ci_volume.proofs.passing.fill_beside.Goals as goal

pub returns-in_err-fill_slot-clause-any_moment : goal.returns-in_err-fill_slot-clause-any_moment
returns-in_err-fill_slot-clause-any_moment g c honest slot pages base before =
    let which = c.args.which in
    let shut = c.shut_gate.new.disk in
    let B : List ℕ → Type 0 = Stands (1 - which) slot pages base in
    let S : List ℕ → Type 0 = StandsBeside false which slot pages base in
    let kept = c.shut_gate.ensures.any_moment slot pages base before in
    let stands = behind g.D.Disk.moment g.D.Disk.left_since g.D.Disk.may_leave g.D.Disk.counts_now c.args.disk.now shut B kept in
    let beside = each_shut (g.D.Disk.may_leave shut) (g.D.Disk.seen shut) (c.in_ok-shut_gate.ensures.stable honest) which slot pages base stands (c.in_ok-shut_gate.ensures.shut honest slot pages base before) in
    joins g.D.Disk.moment g.D.Disk.left_since c.args.disk.now shut c.fill_slot.new.disk B kept
    (weakens g.D.Disk.moment g.D.Disk.left_since shut c.fill_slot.new.disk S B (λ image there. there.stands) (c.fill_slot.ensures.any_moment slot pages base beside))

pub returns-clause-any_moment : goal.returns-clause-any_moment
returns-clause-any_moment g c honest slot pages base before =
    let which = c.args.which in
    let shut = c.shut_gate.new.disk in
    let B : List ℕ → Type 0 = Stands (1 - which) slot pages base in
    let S : List ℕ → Type 0 = StandsBeside false which slot pages base in
    let kept = c.shut_gate.ensures.any_moment slot pages base before in
    let stands = behind g.D.Disk.moment g.D.Disk.left_since g.D.Disk.may_leave g.D.Disk.counts_now c.args.disk.now shut B kept in
    let beside = each_shut (g.D.Disk.may_leave shut) (g.D.Disk.seen shut) (c.in_ok-shut_gate.ensures.stable honest) which slot pages base stands (c.in_ok-shut_gate.ensures.shut honest slot pages base before) in
    joins g.D.Disk.moment g.D.Disk.left_since c.args.disk.now shut c.fill_slot.new.disk B kept
    (weakens g.D.Disk.moment g.D.Disk.left_since shut c.fill_slot.new.disk S B (λ image there. there.stands) (c.fill_slot.ensures.any_moment slot pages base beside))

pub returns-clause-written : goal.returns-clause-written
returns-clause-written g c honest slot pages base later before =
    let which = c.args.which in
    let shut = c.shut_gate.new.disk in
    let filled = c.fill_slot.new.disk in
    let B : List ℕ → Type 0 = Stands (1 - which) slot pages base in
    let kept = c.shut_gate.ensures.any_moment slot pages base before in
    let stands = behind g.D.Disk.moment g.D.Disk.left_since g.D.Disk.may_leave g.D.Disk.counts_now c.args.disk.now shut B kept in
    let beside = each_shut (g.D.Disk.may_leave shut) (g.D.Disk.seen shut) (c.in_ok-shut_gate.ensures.stable honest) which slot pages base stands (c.in_ok-shut_gate.ensures.shut honest slot pages base before) in
    let honest_shut : IsTrue (g.D.Disk.honest shut) = subst (λ (b : Bool). IsTrue b) (sym c.shut_gate.ensures.honest) honest in
    let W : List ℕ → Type 0 = IsWritten which slot c.args.next pages base in
    each_of (g.D.Disk.may_leave filled) (g.D.Disk.seen filled) (c.in_ok-fill_slot.ensures.stable honest_shut) W (c.in_ok-fill_slot.ensures.written honest_shut slot pages base later beside)

pub returns-clause-kept : goal.returns-clause-kept
returns-clause-kept g c at bytes behind holds =
    c.in_ok-fill_slot.ensures.kept at bytes behind (c.in_ok-shut_gate.ensures.kept at bytes behind holds)

pub returns-clause-size : goal.returns-clause-size
returns-clause-size g c long =
    let shut = c.in_ok-shut_gate.ensures.size long in
    c.in_ok-fill_slot.ensures.size (omega (arith, shut, long)) ∙ shut
