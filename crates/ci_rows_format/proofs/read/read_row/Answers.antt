use Rattle.ci_rows_format.proofs.ReadLemmas.{row_read, row_bad}
use Rattle.ci_rows_format.proofs.read.read_row.Goals as goal

pub returns-then-not-may_have : goal.returns-then-not-may_have
returns-then-not-may_have c = row_bad c.args.bytes.now c.in_ok-row.rest.now c.in_ok-row.row c.in_ok-row.ensures (cc (c.may_have.ensures, c.if-not-may_have.true))

pub returns : goal.returns
returns c = row_read c.args.bytes.now c.in_ok-row.rest.now c.in_ok-row.row c.in_ok-row.ensures (cc (c.may_have.ensures, c.if-not-may_have.false))
