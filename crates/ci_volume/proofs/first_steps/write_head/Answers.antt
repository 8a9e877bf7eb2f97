use Rattle.std.proofs.Common.{IsTrue, ◌∙◌}
use Rattle.ci_volume.proofs.Beginning.{head_blank}
use Rattle.ci_volume.proofs.first_steps.write_head.Goals as goal

pub returns-in_ok-write_stable-clause-blank : goal.returns-in_ok-write_stable-clause-blank
returns-in_ok-write_stable-clause-blank g c honest =
    let honest_mid : IsTrue (g.D.Disk.honest c.measure.new.disk) = c.measure.ensures.stays.honesty ∙ c.make_stable.ensures.honest ∙ honest in
    head_blank (g.D.Disk.seen c.write_stable.new.disk) (c.in_ok-write_stable.ensures.stable honest_mid).1
