use Rattle.std.proofs.Common.{List, ℕ, subst, sym}
use Rattle.ci_volume.specs.Runs.{IsRun}
use Rattle.ci_volume.specs.Steps.{IsSparedFrom}
use Rattle.ci_volume.proofs.Moments.{behind, joins, weakens}
use Rattle.ci_volume.proofs.writing.write_chain.Goals as goal

pub returns-in_err-size-clause-any_moment : goal.returns-in_err-size-clause-any_moment
returns-in_err-size-clause-any_moment g c =
    let old = c.args.disk.now in
    let mid = c.write_pages.new.disk in
    let new = c.measure.new.disk in
    let P : List ℕ → Type 0 = IsSparedFrom (g.D.Disk.may_leave old) c.args.pages.now in
    let stands = behind g.D.Disk.moment g.D.Disk.left_since g.D.Disk.may_leave g.D.Disk.counts_now old mid P c.write_pages.ensures.any_moment in
    joins g.D.Disk.moment g.D.Disk.left_since old mid new P c.write_pages.ensures.any_moment
    (weakens g.D.Disk.moment g.D.Disk.left_since mid new (g.D.Disk.may_leave mid) P stands c.measure.ensures.stays.any_moment)

pub returns-clause-any_moment : goal.returns-clause-any_moment
returns-clause-any_moment g c =
    let old = c.args.disk.now in
    let mid = c.write_pages.new.disk in
    let new = c.measure.new.disk in
    let P : List ℕ → Type 0 = IsSparedFrom (g.D.Disk.may_leave old) c.args.pages.now in
    let stands = behind g.D.Disk.moment g.D.Disk.left_since g.D.Disk.may_leave g.D.Disk.counts_now old mid P c.write_pages.ensures.any_moment in
    joins g.D.Disk.moment g.D.Disk.left_since old mid new P c.write_pages.ensures.any_moment
    (weakens g.D.Disk.moment g.D.Disk.left_since mid new (g.D.Disk.may_leave mid) P stands c.measure.ensures.stays.any_moment)

pub returns-clause-ok : goal.returns-clause-ok
returns-clause-ok g c honest =
    subst (λ (image : List ℕ). IsRun image c.args.pages.now c.args.bytes.now) (sym c.measure.ensures.stays.bytes) (c.in_ok-write_pages.ensures.ok honest)
