use Rattle.std.proofs.Common.{◌-◌, ◌∙◌, IsTrue, ℕ, List, subst, sym}
use Rattle.ci_volume.specs.Steps.{StandsBeside}
use Rattle.ci_volume.proofs.Ready.{ready_of}
use Rattle.ci_volume.proofs.opening.open_image.Goals as goal

pub returns-clause-ready : goal.returns-clause-ready
returns-clause-ready g c honest image left =
    let old = c.args.disk.now in
    let mid = c.make_stable.new.disk in
    let honest_mid : IsTrue (g.D.Disk.honest mid) = c.make_stable.ensures.honest ∙ honest in
    let only = c.in_ok-make_stable.ensures.stable honest in
    let opened = c.in_ok-opened.opened in
    let current = opened.current in
    let root = opened.root.items in
    let there = ready_of (g.D.Disk.seen mid) current root (c.in_ok-opened.ensures.told honest_mid) (c.in_ok-opened.ensures.ok honest_mid) in
    subst (λ (i : List ℕ). StandsBeside current.may_be_open (1 - current.which) current.slot root (g.D.Disk.seen old) i) (sym (only image (c.find_generation.ensures.stays.images image left)))
    (subst (λ (base : List ℕ). StandsBeside current.may_be_open (1 - current.which) current.slot root base (g.D.Disk.seen mid)) c.make_stable.ensures.seen there)
