use Rattle.std.proofs.Common.{◌≡◌, ◌-◌, ℕ, List, Bool, IsTrue, true, inl, sym, subst, arith, ◌∙◌}
use Rattle.ci_volume.specs.Steps.{Stands, StandsBeside, StandsEither}
use Rattle.ci_volume.proofs.Moments.{joins, weakens}
use Rattle.ci_volume.proofs.Steps.{each_of}
use Rattle.ci_volume.proofs.passing.pass_over.Goals as goal

pub returns-in_err-fill_beside-clause-any_moment : goal.returns-in_err-fill_beside-clause-any_moment
returns-in_err-fill_beside-clause-any_moment g c honest slot pages base later before =
    let B : List ℕ → Type 0 = Stands (1 - c.args.which) slot pages base in
    let P : List ℕ → Type 0 = StandsEither c.args.which slot c.args.next pages base in
    weakens g.D.Disk.moment g.D.Disk.left_since c.args.disk.now c.fill_beside.new.disk B P (λ image stands. inl stands) (c.fill_beside.ensures.any_moment honest slot pages base before)

pub returns-in_err-open_gate-clause-any_moment : goal.returns-in_err-open_gate-clause-any_moment
returns-in_err-open_gate-clause-any_moment g c honest slot pages base later before =
    let filled = c.fill_beside.new.disk in
    let B : List ℕ → Type 0 = Stands (1 - c.args.which) slot pages base in
    let P : List ℕ → Type 0 = StandsEither c.args.which slot c.args.next pages base in
    let first = weakens g.D.Disk.moment g.D.Disk.left_since c.args.disk.now filled B P (λ image stands. inl stands) (c.fill_beside.ensures.any_moment honest slot pages base before) in
    let ready = c.in_ok-fill_beside.ensures.written honest slot pages base later before in
    joins g.D.Disk.moment g.D.Disk.left_since c.args.disk.now filled c.open_gate.new.disk P first (c.open_gate.ensures.any_moment slot c.args.next pages base ready)

pub returns-clause-any_moment : goal.returns-clause-any_moment
returns-clause-any_moment g c honest slot pages base later before =
    let filled = c.fill_beside.new.disk in
    let B : List ℕ → Type 0 = Stands (1 - c.args.which) slot pages base in
    let P : List ℕ → Type 0 = StandsEither c.args.which slot c.args.next pages base in
    let first = weakens g.D.Disk.moment g.D.Disk.left_since c.args.disk.now filled B P (λ image stands. inl stands) (c.fill_beside.ensures.any_moment honest slot pages base before) in
    let ready = c.in_ok-fill_beside.ensures.written honest slot pages base later before in
    joins g.D.Disk.moment g.D.Disk.left_since c.args.disk.now filled c.open_gate.new.disk P first (c.open_gate.ensures.any_moment slot c.args.next pages base ready)

pub returns-clause-acknowledged : goal.returns-clause-acknowledged
returns-clause-acknowledged g c honest slot pages base later before =
    let opened = c.open_gate.new.disk in
    let honest_filled : IsTrue (g.D.Disk.honest c.fill_beside.new.disk) = subst (λ (b : Bool). IsTrue b) (sym c.fill_beside.ensures.honest) honest in
    let ready = c.in_ok-fill_beside.ensures.written honest slot pages base later before in
    let T : List ℕ → Type 0 = Stands c.args.which c.args.next pages base in
    each_of (g.D.Disk.may_leave opened) (g.D.Disk.seen opened) (c.in_ok-open_gate.ensures.stable honest_filled) T (c.in_ok-open_gate.ensures.acknowledged honest_filled slot c.args.next pages base ready)

pub returns-clause-ready : goal.returns-clause-ready
returns-clause-ready g c honest slot pages base later before =
    let which = c.args.which in
    let opened = c.open_gate.new.disk in
    let honest_filled : IsTrue (g.D.Disk.honest c.fill_beside.new.disk) = subst (λ (b : Bool). IsTrue b) (sym c.fill_beside.ensures.honest) honest in
    let ready = c.in_ok-fill_beside.ensures.written honest slot pages base later before in
    let T : List ℕ → Type 0 = StandsBeside true (1 - which) c.args.next pages base in
    let there = c.in_ok-open_gate.ensures.acknowledged honest_filled slot c.args.next pages base ready in
    let place : which ≡ 1 - (1 - which) = omega (arith, c.requires) in
    each_of (g.D.Disk.may_leave opened) (g.D.Disk.seen opened) (c.in_ok-open_gate.ensures.stable honest_filled) T (record {
      stands = subst (λ (w : ℕ). Stands w c.args.next pages base (g.D.Disk.seen opened)) place there;
      beside = c.in_ok-open_gate.ensures.older honest_filled slot c.args.next pages base ready;
    })

pub returns-clause-kept : goal.returns-clause-kept
returns-clause-kept g c at bytes behind holds =
    c.in_ok-open_gate.ensures.kept at bytes behind (c.in_ok-fill_beside.ensures.kept at bytes behind holds)

pub returns-clause-size : goal.returns-clause-size
returns-clause-size g c long =
    let filled = c.in_ok-fill_beside.ensures.size long in
    c.in_ok-open_gate.ensures.size (omega (arith, filled, long)) ∙ filled
