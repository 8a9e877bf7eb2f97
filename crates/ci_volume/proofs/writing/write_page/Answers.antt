use Rattle.std.proofs.Common.{◌≡◌, ◌*◌, ℕ, arith, length, subst}
use Rattle.ci_device.specs.Images.{Torn}
use Rattle.ci_device.specs.Time.{LeavesOnly}
use Rattle.ci_volume.specs.Steps.{IsTornFrom}
use Rattle.ci_volume.proofs.writing.write_page.Goals as goal

pub returns-clause-others : goal.returns-clause-others
returns-clause-others g c =
    let size : length c.spell_page.new.page ≡ 4096 = omega (arith, c.spell_page.auto.page, c.requires.size) in
    let old = c.args.disk.now in
    let new = c.write_now.new.disk in
    subst (λ (p : ℕ). Torn (4096 * p) 4096 (g.D.Disk.seen old) (g.D.Disk.seen new)) c.from.ensures
    (subst (λ (m : ℕ). Torn (4096 * c.from.result) m (g.D.Disk.seen old) (g.D.Disk.seen new)) size c.write_now.ensures.others)

pub returns-clause-any_moment : goal.returns-clause-any_moment
returns-clause-any_moment g c =
    let size : length c.spell_page.new.page ≡ 4096 = omega (arith, c.spell_page.auto.page, c.requires.size) in
    let old = c.args.disk.now in
    let new = c.write_now.new.disk in
    subst (λ (p : ℕ). LeavesOnly g.D.Disk.moment g.D.Disk.left_since old new (IsTornFrom (g.D.Disk.may_leave old) (4096 * p) 4096)) c.from.ensures
    (subst (λ (m : ℕ). LeavesOnly g.D.Disk.moment g.D.Disk.left_since old new (IsTornFrom (g.D.Disk.may_leave old) (4096 * c.from.result) m)) size c.write_now.ensures.any_moment)
