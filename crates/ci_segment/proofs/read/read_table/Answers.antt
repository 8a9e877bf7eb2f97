use Rattle.std.proofs.lemmas.Result.{err_from_is_err_and}
use Rattle.ci_front.specs.Front.{many_at, u32_at}
use Rattle.ci_front.proofs.CodeLemmas.{many_done, many_goes_on}
use Rattle.ci_segment.proofs.ReadLemmas.{many_list_ends}
use Rattle.ci_segment.proofs.read.read_table.Goals as goal

pub returns-in_err-offset : goal.returns-in_err-offset
returns-in_err-offset c =
    let p = err_from_is_err_and c.from_residual.result c.from_residual.ensures.1 in
    rw (p.1, p.2) (many_list_ends u32_at c.in_err-offset.field-0.0 c.loop.table.items c.args.count c.loop.counter c.loop.rest.now (many_at u32_at c.args.count c.args.bytes.now) c.loop-test.true c.in_err-offset.ensures c.loop.invariant)

pub loop-preserved : goal.loop-preserved
loop-preserved c =
    rw c.in_ok-push.ensures.items (many_goes_on u32_at c.loop.table.items c.args.count c.loop.counter c.loop.rest.now c.in_ok-offset.offset c.in_ok-offset.after.now (many_at u32_at c.args.count c.args.bytes.now) c.loop-test.true c.in_ok-offset.ensures c.loop.invariant)

pub returns : goal.returns
returns c = many_done u32_at c.loop.table.items c.args.count c.loop.counter c.loop.rest.now (many_at u32_at c.args.count c.args.bytes.now) c.loop-test.false c.loop.invariant
