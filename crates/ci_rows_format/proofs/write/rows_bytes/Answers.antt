use Rattle.std.proofs.Common.{All, length, codes, subst}
use Rattle.std.proofs.lemmas.List.{take_all}
use Rattle.std.proofs.lemmas.List.Elements.{recursion_from_All}
use Rattle.ci_base.specs.Varint.{varint}
use Rattle.ci_rows_format.specs.Rows.{IsRow, row_bytes}
use Rattle.ci_rows_format.proofs.WriteLemmas.{written_more, all_more}
use Rattle.ci_rows_format.proofs.write.rows_bytes.Goals as goal

pub loop-row-preserved : goal.loop-row-preserved
loop-row-preserved c = (
  written_more row_bytes (codes "CIW1") (varint (length c.args.rows.now)) c.loop-row.out.items c.put_row.new.out.items c.args.rows.now c.loop-row.row-index c.row-item.result c.loop-row-test.true c.row-item.is c.loop-row.invariant.0 c.in_ok-put_row.ensures.bytes,
  all_more IsRow c.args.rows.now c.loop-row.row-index c.row-item.result c.loop-row-test.true c.row-item.is c.loop-row.invariant.1 c.in_ok-put_row.ensures.grammar,
)

pub returns-clause-grammar : goal.returns-clause-grammar
returns-clause-grammar c = record {
  few = c.put_count.ensures.range;
  each = recursion_from_All IsRow c.args.rows.now (subst (λ rows. All IsRow rows) (take_all c.loop-row.row-index c.args.rows.now c.loop-row-test.false) c.loop-row.invariant.1);
  ascend = c.requires.ascend;
}
