use Rattle.std.proofs.Common.{◌≡◌, arith}
use Rattle.ci_segment.proofs.CommonLemmas.{common_all}
use Rattle.ci_segment.proofs.fields.common.Goals as goal

pub returns : goal.returns
returns c =
    let all : c.loop-same.same ≡ c.min-most.result = omega (arith, c.loop-same-test.false, c.loop-same.auto.same-end) in
    common_all c.args.a.now c.args.b.now c.min-most.result c.loop-same.same c.min-most.ensures all c.loop-same.invariant
