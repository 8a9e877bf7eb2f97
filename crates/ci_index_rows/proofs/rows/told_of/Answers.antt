use Rattle.std.proofs.Common.{All, sym, subst}
use Rattle.ci_rows_format.specs.Rows.{HasRightValues, Rises}
use Rattle.ci_index_rows.proofs.RowsLemmas.{right_rows}
use Rattle.ci_index_rows.proofs.rows.told_of.Goals as goal

pub rows_bytes-requires-clause-ascend : goal.rows_bytes-requires-clause-ascend
rows_bytes-requires-clause-ascend c = subst (λ rows. Rises (λ row. row.doc.0) rows) (sym c.as_slice.ensures.value) c.in-Ok.ensures.ok.0.ascend

pub rows_bytes-requires-clause-each : goal.rows_bytes-requires-clause-each
rows_bytes-requires-clause-each c = subst (λ rows. All HasRightValues rows) (sym c.as_slice.ensures.value) (right_rows c.in-Ok.rows.items c.in-Ok.ensures.ok.0)
