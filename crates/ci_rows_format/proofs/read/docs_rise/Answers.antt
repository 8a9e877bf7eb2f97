use Rattle.std.proofs.Common.{sym}
use Rattle.ci_front.proofs.RisesLemmas.{rises_on, rises_not, rises_done}
use Rattle.ci_rows_format.proofs.read.docs_rise.Goals as goal

pub returns-then-rows-place : goal.returns-then-rows-place
returns-then-rows-place c =
    sym (rises_not (λ row. row.doc.0) c.args.rows.now c.loop-place.place c.index-rows-place.result c.index-rows-place-in-loop-place.result c.loop-place.auto.place c.loop-place-test.true c.if-rows-place.true c.loop-place.invariant)

pub loop-place-preserved : goal.loop-place-preserved
loop-place-preserved c =
    rises_on (λ row. row.doc.0) c.args.rows.now c.loop-place.place c.index-rows-place.result c.index-rows-place-in-loop-place.result c.loop-place.auto.place c.loop-place-test.true c.if-rows-place.false c.loop-place.invariant

pub returns : goal.returns
returns c = sym (rises_done (λ row. row.doc.0) c.args.rows.now c.loop-place.place c.loop-place-test.false c.loop-place.invariant)
