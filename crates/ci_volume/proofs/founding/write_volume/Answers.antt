use Rattle.std.proofs.Common.{List, ℕ, IsTrue, inl, inr, ⊎_elim, ◌∙◌}
use Rattle.ci_volume.specs.Creation.{BlankOrFounded, FreshOrFounded}
use Rattle.ci_volume.specs.Layout.{IsFresh}
use Rattle.ci_volume.proofs.Beginning.{blank_fresh}
use Rattle.ci_volume.proofs.Moments.{joins, weakens}
use Rattle.ci_volume.proofs.founding.write_volume.Goals as goal

pub returns-in_err-lay_volume-clause-any_moment : goal.returns-in_err-lay_volume-clause-any_moment
returns-in_err-lay_volume-clause-any_moment g c honest each =
    let plan = c.args.plan in
    let Q : List ℕ → Type 0 = FreshOrFounded plan.slot plan.root_pages.now plan.root.now plan.log.now in
    weakens g.D.Disk.moment g.D.Disk.left_since c.args.disk.now c.lay_volume.new.disk IsFresh Q (λ image fresh. inl fresh) (c.lay_volume.ensures.any_moment honest each)

pub returns-in_err-open_volume-clause-any_moment : goal.returns-in_err-open_volume-clause-any_moment
returns-in_err-open_volume-clause-any_moment g c honest each =
    let plan = c.args.plan in
    let laid = c.lay_volume.new.disk in
    let new = c.open_volume.new.disk in
    let Q : List ℕ → Type 0 = FreshOrFounded plan.slot plan.root_pages.now plan.root.now plan.log.now in
    let B : List ℕ → Type 0 = BlankOrFounded plan.slot plan.root_pages.now plan.root.now plan.log.now in
    let honest_laid : IsTrue (g.D.Disk.honest laid) = c.lay_volume.ensures.honest ∙ honest in
    let last = c.open_volume.ensures.any_moment honest_laid (c.in_ok-lay_volume.ensures.blank honest) (c.in_ok-lay_volume.ensures.root honest) (c.in_ok-lay_volume.ensures.log honest) in
    joins g.D.Disk.moment g.D.Disk.left_since c.args.disk.now laid new Q
    (weakens g.D.Disk.moment g.D.Disk.left_since c.args.disk.now laid IsFresh Q (λ image fresh. inl fresh) (c.lay_volume.ensures.any_moment honest each))
    (weakens g.D.Disk.moment g.D.Disk.left_since laid new B Q (λ image. ⊎_elim (λ was. inl (blank_fresh image was)) (λ now. inr now)) last)

pub returns-clause-any_moment : goal.returns-clause-any_moment
returns-clause-any_moment g c honest each =
    let plan = c.args.plan in
    let laid = c.lay_volume.new.disk in
    let new = c.open_volume.new.disk in
    let Q : List ℕ → Type 0 = FreshOrFounded plan.slot plan.root_pages.now plan.root.now plan.log.now in
    let B : List ℕ → Type 0 = BlankOrFounded plan.slot plan.root_pages.now plan.root.now plan.log.now in
    let honest_laid : IsTrue (g.D.Disk.honest laid) = c.lay_volume.ensures.honest ∙ honest in
    let last = c.open_volume.ensures.any_moment honest_laid (c.in_ok-lay_volume.ensures.blank honest) (c.in_ok-lay_volume.ensures.root honest) (c.in_ok-lay_volume.ensures.log honest) in
    joins g.D.Disk.moment g.D.Disk.left_since c.args.disk.now laid new Q
    (weakens g.D.Disk.moment g.D.Disk.left_since c.args.disk.now laid IsFresh Q (λ image fresh. inl fresh) (c.lay_volume.ensures.any_moment honest each))
    (weakens g.D.Disk.moment g.D.Disk.left_since laid new B Q (λ image. ⊎_elim (λ was. inl (blank_fresh image was)) (λ now. inr now)) last)

pub returns-clause-acknowledged : goal.returns-clause-acknowledged
returns-clause-acknowledged g c honest =
    let honest_laid : IsTrue (g.D.Disk.honest c.lay_volume.new.disk) = c.lay_volume.ensures.honest ∙ honest in
    c.in_ok-open_volume.ensures.acknowledged honest_laid (c.in_ok-lay_volume.ensures.blank honest) (c.in_ok-lay_volume.ensures.root honest) (c.in_ok-lay_volume.ensures.log honest)

pub returns-clause-stable : goal.returns-clause-stable
returns-clause-stable g c honest = c.in_ok-open_volume.ensures.stable (c.lay_volume.ensures.honest ∙ honest)
