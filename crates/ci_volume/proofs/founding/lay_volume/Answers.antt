use Rattle.std.proofs.Common.{◌∙◌}
use Rattle.ci_volume.specs.Layout.{IsFresh}
use Rattle.ci_volume.specs.Steps.{IsBlank}
use Rattle.ci_volume.proofs.Beginning.{blank_fresh}
use Rattle.ci_volume.proofs.Moments.{behind, joins, weakens}
use Rattle.ci_volume.proofs.Steps.{each_of}
use Rattle.ci_volume.proofs.founding.lay_volume.Goals as goal

pub returns-in_err-lay_chains-clause-any_moment : goal.returns-in_err-lay_chains-clause-any_moment
returns-in_err-lay_chains-clause-any_moment g c honest each =
    let head = c.write_head.new.disk in
    let laid = c.lay_chains.new.disk in
    let blank = each_of (g.D.Disk.may_leave head) (g.D.Disk.seen head) (c.in_ok-write_head.ensures.stable honest) IsBlank (c.in_ok-write_head.ensures.blank honest) in
    joins g.D.Disk.moment g.D.Disk.left_since c.args.disk.now head laid IsFresh (c.write_head.ensures.any_moment honest each)
    (weakens g.D.Disk.moment g.D.Disk.left_since head laid IsBlank IsFresh blank_fresh (c.lay_chains.ensures.any_moment blank))

pub returns-clause-any_moment : goal.returns-clause-any_moment
returns-clause-any_moment g c honest each =
    let head = c.write_head.new.disk in
    let laid = c.lay_chains.new.disk in
    let blank = each_of (g.D.Disk.may_leave head) (g.D.Disk.seen head) (c.in_ok-write_head.ensures.stable honest) IsBlank (c.in_ok-write_head.ensures.blank honest) in
    joins g.D.Disk.moment g.D.Disk.left_since c.args.disk.now head laid IsFresh (c.write_head.ensures.any_moment honest each)
    (weakens g.D.Disk.moment g.D.Disk.left_since head laid IsBlank IsFresh blank_fresh (c.lay_chains.ensures.any_moment blank))

pub returns-clause-blank : goal.returns-clause-blank
returns-clause-blank g c honest =
    let head = c.write_head.new.disk in
    let laid = c.lay_chains.new.disk in
    let blank = each_of (g.D.Disk.may_leave head) (g.D.Disk.seen head) (c.in_ok-write_head.ensures.stable honest) IsBlank (c.in_ok-write_head.ensures.blank honest) in
    behind g.D.Disk.moment g.D.Disk.left_since g.D.Disk.may_leave g.D.Disk.counts_now head laid IsBlank (c.lay_chains.ensures.any_moment blank)

pub returns-clause-root : goal.returns-clause-root
returns-clause-root g c honest = c.in_ok-lay_chains.ensures.root (c.write_head.ensures.honest ∙ honest)

pub returns-clause-log : goal.returns-clause-log
returns-clause-log g c honest = c.in_ok-lay_chains.ensures.log (c.write_head.ensures.honest ∙ honest)
