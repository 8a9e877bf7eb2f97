use Rattle.std.proofs.Common.{arith}
use Rattle.ci_rows_format.proofs.PublicLemmas.{read_ok, read_bad}
use Rattle.ci_rows_format.proofs.read.read_rows.Goals as goal

pub returns-clause-ok : goal.returns-clause-ok
returns-clause-ok c = read_ok c.args.bytes.now c.read_all.result (λ i. omega (arith, c.type_inv.bytes i)) c.read_all.ensures

pub returns-clause-bad : goal.returns-clause-bad
returns-clause-bad c = read_bad c.args.bytes.now c.read_all.result c.read_all.ensures
