use Rattle.std.proofs.lemmas.Result.{err_from_is_err_and}
use Rattle.ci_front.specs.Front.{many_at}
use Rattle.ci_front.proofs.CodeLemmas.{many_goes_on, many_done}
use Rattle.ci_rows_format.specs.Reading.{row_at}
use Rattle.ci_rows_format.proofs.ReadLemmas.{list_ends}
use Rattle.ci_rows_format.proofs.read.read_list.Goals as goal

pub returns-in_err-row : goal.returns-in_err-row
returns-in_err-row c =
    let p = err_from_is_err_and c.from_residual.result c.from_residual.ensures.1 in
    rw (p.1, p.2) (list_ends row_at c.in_err-row.field-0.0 c.loop.rows.items c.args.count c.loop.counter c.loop.rest.now (many_at row_at c.args.count c.args.bytes.now) c.loop-test.true c.in_err-row.ensures c.loop.invariant)

pub loop-preserved : goal.loop-preserved
loop-preserved c =
    rw c.in_ok-push.ensures.items (many_goes_on row_at c.loop.rows.items c.args.count c.loop.counter c.loop.rest.now c.in_ok-row.row c.in_ok-row.after.now (many_at row_at c.args.count c.args.bytes.now) c.loop-test.true c.in_ok-row.ensures c.loop.invariant)

pub returns : goal.returns
returns c = many_done row_at c.loop.rows.items c.args.count c.loop.counter c.loop.rest.now (many_at row_at c.args.count c.args.bytes.now) c.loop-test.false c.loop.invariant
