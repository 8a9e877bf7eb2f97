use Rattle.std.proofs.Common.{ap, Err}
use Rattle.ci_wire.proofs.BodyLemmas.{no_init-short, no_init-path}
use Rattle.ci_wire.proofs.body.read_init.Goals as goal

pub returns-then-fields-lt4-clause-bad : goal.returns-then-fields-lt4-clause-bad
returns-then-fields-lt4-clause-bad c = λ _. no_init-short _ c.if-fields-lt4.true

pub returns-in-Err-BadPath-clause-bad : goal.returns-in-Err-BadPath-clause-bad
returns-in-Err-BadPath-clause-bad c = λ _.
    no_init-path _ _ _ c.split_u32-flags.ensures.spelled c.split_u32-flags.ensures.range
    (c.in-Err-BadPath.ensures.bad (ap (λ e. Err e) c.in-Err-BadPath.field-0-is))
