use Rattle.std.proofs.Common.{ap, ◌∷◌}
use Rattle.ci_wire.proofs.BodyLemmas.{no_get_text-length, u32_whole}
use Rattle.ci_wire.proofs.body.read_get_text.Goals as goal

pub returns-then-fields-ne4-clause-bad : goal.returns-then-fields-ne4-clause-bad
returns-then-fields-ne4-clause-bad c = λ _. no_get_text-length _ c.if-fields-ne4.true

pub returns-clause-ok : goal.returns-clause-ok
returns-clause-ok c = (c.split_u32-max.ensures.range, ap (λ f. 3 ∷ f) (u32_whole _ _ _ c.split_u32-max.ensures.spelled c.if-fields-ne4.false))
