use Rattle.ci_wire.proofs.BodyLemmas.{no_chunk-length, no_chunk-break, no_chunk-state}
use Rattle.ci_wire.proofs.body.read_chunk.Goals as goal

pub returns-then-fields-ne24-clause-bad : goal.returns-then-fields-ne24-clause-bad
returns-then-fields-ne24-clause-bad c = λ _. no_chunk-length _ c.if-fields-ne24.true

pub returns-in-None-clause-bad : goal.returns-in-None-clause-bad
returns-in-None-clause-bad c = λ _.
    no_chunk-break _ _ c.split_at.result.0.now _ _ c.split_u32-id.ensures.spelled c.split_at.ensures.front c.split_at.ensures.front_len c.split_at.ensures.back c.in-None.ensures.none

pub returns-in-None-read_state-clause-bad : goal.returns-in-None-read_state-clause-bad
returns-in-None-read_state-clause-bad c = λ _.
    no_chunk-state _ _ c.split_at.result.0.now _ _ c.split_u32-id.ensures.spelled c.split_at.ensures.front c.split_at.ensures.front_len c.split_at.ensures.back c.in-None-read_state.ensures.none
