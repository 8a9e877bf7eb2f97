use Rattle.ci_wire.proofs.BodyLemmas.{same_err, no_value-short, no_value-status, no_value-value}
use Rattle.ci_wire.proofs.body.read_value_answer.Goals as goal

pub returns-then-fields-lt4-clause-bad : goal.returns-then-fields-lt4-clause-bad
returns-then-fields-lt4-clause-bad c = λ _. no_value-short _ c.if-fields-lt4.true

pub returns-then-not-is_value_status-clause-bad : goal.returns-then-not-is_value_status-clause-bad
returns-then-not-is_value_status-clause-bad c = λ _.
    no_value-status _ _ record { 0 = c.split_u32-status.result.0 } c.split_u32-status.ensures.spelled c.split_u32-status.ensures.range (λ status. let never = c.if-not-is_value_status.ensures.1 status in cc)

pub returns-in-Err-clause-bad : goal.returns-in-Err-clause-bad
returns-in-Err-clause-bad c = λ e.
    no_value-value _ _ record { 0 = c.split_u32-status.result.0 } c.split_u32-status.ensures.spelled c.split_u32-status.ensures.range (c.in-Err.ensures.bad (same_err _ _ e))
