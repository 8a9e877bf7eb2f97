use Rattle.ci_wire.proofs.BodyLemmas.{same_err, no_text-short, no_text-status, no_text-text}
use Rattle.ci_wire.proofs.body.read_text_answer.Goals as goal

pub returns-then-fields-lt4-clause-bad : goal.returns-then-fields-lt4-clause-bad
returns-then-fields-lt4-clause-bad c = λ _. no_text-short _ c.if-fields-lt4.true

pub returns-then-not-is_text_status-clause-bad : goal.returns-then-not-is_text_status-clause-bad
returns-then-not-is_text_status-clause-bad c = λ _.
    no_text-status _ _ record { 0 = c.split_u32-status.result.0 } c.split_u32-status.ensures.spelled c.split_u32-status.ensures.range (λ status. let never = c.if-not-is_text_status.ensures.1 status in cc)

pub returns-in-Err-clause-bad : goal.returns-in-Err-clause-bad
returns-in-Err-clause-bad c = λ e.
    no_text-text _ _ record { 0 = c.split_u32-status.result.0 } c.split_u32-status.ensures.spelled c.split_u32-status.ensures.range (c.in-Err.ensures.bad (same_err _ _ e))
