use Rattle.ci_rows_format.proofs.WriteLemmas.{right_values}
use Rattle.ci_rows_format.proofs.write.put_row.Goals as goal

pub returns-clause-grammar : goal.returns-clause-grammar
returns-clause-grammar c = record {
  doc = c.put_doc.ensures.range;
  path = c.as_str.ensures.path;
  seq = c.put_seq.ensures.range;
  state = c.requires.state;
  values = right_values c.items.result.now c.args.row.now.values c.items.ensures c.put_values.ensures.few c.requires.kinds c.requires.ascend c.in_ok-put_values.ensures.each;
}
