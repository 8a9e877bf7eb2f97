use Rattle.ci_rows_format.proofs.RowLemmas.{one_rows}
use Rattle.ci_rows_format.proofs.read.rows_law.Goals as goal

pub returns : goal.returns
returns c = one_rows
