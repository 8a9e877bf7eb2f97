use Rattle.std.proofs.Common.{◌∷◌, ap, ◌∙◌}
use Rattle.ci_wire.proofs.BodyLemmas.{no_int-length}
use Rattle.ci_wire.proofs.body.read_value.Goals as goal

pub returns-then-rest-ne8-clause-bad : goal.returns-then-rest-ne8-clause-bad
returns-then-rest-ne8-clause-bad c = λ _ v grammar e.
    no_int-length c.in-Some.rest.now c.if-rest-ne8.true v grammar (e ∙ c.in-Some.ensures.cases.0 ∙ ap (λ k. k ∷ c.in-Some.rest.now) c.in-1.is)
