use Rattle.std.proofs.Common.{sym}
use Rattle.ci_front.proofs.RisesLemmas.{rises_on, rises_not, rises_done}
use Rattle.ci_rows_format.proofs.fields.properties_rise.Goals as goal

pub returns-then-values-place : goal.returns-then-values-place
returns-then-values-place c =
    sym (rises_not (λ value. value.0.0) c.args.values.now c.loop-place.place c.index-values-place.result c.index-values-place-in-loop-place.result c.loop-place.auto.place c.loop-place-test.true c.if-values-place.true c.loop-place.invariant)

pub loop-place-preserved : goal.loop-place-preserved
loop-place-preserved c =
    rises_on (λ value. value.0.0) c.args.values.now c.loop-place.place c.index-values-place.result c.index-values-place-in-loop-place.result c.loop-place.auto.place c.loop-place-test.true c.if-values-place.false c.loop-place.invariant

pub returns : goal.returns
returns c = sym (rises_done (λ value. value.0.0) c.args.values.now c.loop-place.place c.loop-place-test.false c.loop-place.invariant)
