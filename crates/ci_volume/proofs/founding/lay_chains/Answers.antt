use Rattle.std.proofs.Common.{IsTrue, ◌∙◌}
use Rattle.ci_volume.specs.Steps.{IsBlank, IsSparedFrom}
use Rattle.ci_volume.proofs.Apart.{blank_stays}
use Rattle.ci_volume.proofs.Moments.{behind, joins, weakens}
use Rattle.ci_volume.proofs.Spared.{run_spared}
use Rattle.ci_volume.proofs.founding.lay_chains.Goals as goal

pub returns-in_err-write_pages-clause-any_moment : goal.returns-in_err-write_pages-clause-any_moment
returns-in_err-write_pages-clause-any_moment g c each =
    let plan = c.args.plan in
    (weakens g.D.Disk.moment g.D.Disk.left_since c.args.disk.now c.write_pages.new.disk (IsSparedFrom (g.D.Disk.may_leave c.args.disk.now) plan.root_pages.now) IsBlank
    (λ image from. blank_stays plan.root_pages.now from.0 image from.2 plan.root_data (each from.0 from.1)) c.write_pages.ensures.any_moment)

pub returns-in_err-write_pages-2-clause-any_moment : goal.returns-in_err-write_pages-2-clause-any_moment
returns-in_err-write_pages-2-clause-any_moment g c each =
    let plan = c.args.plan in
    let old = c.args.disk.now in
    let mid = c.write_pages.new.disk in
    let first = (weakens g.D.Disk.moment g.D.Disk.left_since old mid (IsSparedFrom (g.D.Disk.may_leave old) plan.root_pages.now) IsBlank
    (λ image from. blank_stays plan.root_pages.now from.0 image from.2 plan.root_data (each from.0 from.1)) c.write_pages.ensures.any_moment) in
    let blank = behind g.D.Disk.moment g.D.Disk.left_since g.D.Disk.may_leave g.D.Disk.counts_now old mid IsBlank first in
    joins g.D.Disk.moment g.D.Disk.left_since old mid c.write_pages-2.new.disk IsBlank first
    (weakens g.D.Disk.moment g.D.Disk.left_since mid c.write_pages-2.new.disk (IsSparedFrom (g.D.Disk.may_leave mid) plan.log.now) IsBlank
    (λ image from. blank_stays plan.log.now from.0 image from.2 plan.log_data (blank from.0 from.1)) c.write_pages-2.ensures.any_moment)

pub returns-clause-any_moment : goal.returns-clause-any_moment
returns-clause-any_moment g c each =
    let plan = c.args.plan in
    let old = c.args.disk.now in
    let mid = c.write_pages.new.disk in
    let first = (weakens g.D.Disk.moment g.D.Disk.left_since old mid (IsSparedFrom (g.D.Disk.may_leave old) plan.root_pages.now) IsBlank
    (λ image from. blank_stays plan.root_pages.now from.0 image from.2 plan.root_data (each from.0 from.1)) c.write_pages.ensures.any_moment) in
    let blank = behind g.D.Disk.moment g.D.Disk.left_since g.D.Disk.may_leave g.D.Disk.counts_now old mid IsBlank first in
    joins g.D.Disk.moment g.D.Disk.left_since old mid c.write_pages-2.new.disk IsBlank first
    (weakens g.D.Disk.moment g.D.Disk.left_since mid c.write_pages-2.new.disk (IsSparedFrom (g.D.Disk.may_leave mid) plan.log.now) IsBlank
    (λ image from. blank_stays plan.log.now from.0 image from.2 plan.log_data (blank from.0 from.1)) c.write_pages-2.ensures.any_moment)

pub returns-clause-root : goal.returns-clause-root
returns-clause-root g c honest =
    let plan = c.args.plan in
    run_spared plan.log.now (g.D.Disk.seen c.write_pages.new.disk) (g.D.Disk.seen c.write_pages-2.new.disk) c.write_pages-2.ensures.others plan.root_pages.now plan.root.now plan.apart (c.in_ok-write_pages.ensures.ok honest)

pub returns-clause-log : goal.returns-clause-log
returns-clause-log g c honest =
    let honest_mid : IsTrue (g.D.Disk.honest c.write_pages.new.disk) = c.write_pages.ensures.honest ∙ honest in
    c.in_ok-write_pages-2.ensures.ok honest_mid
