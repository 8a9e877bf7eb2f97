use Rattle.std.proofs.Common.{sym}
use Rattle.ci_change.proofs.RowsLemmas.{numbers_at_place}
use Rattle.ci_change.proofs.rows.numbers_of.Goals as goal

pub returns : goal.returns
returns c path named =
    let row = c.unwrap.result in
    let at = rw c.unwrap.ensures at c.get_index.ensures.entry in
    let found = rw c.unwrap.ensures at c.get_index.ensures.value in
    numbers_at_place c.args.rows.now.entries c.args.place (row.0.now, row.1.now) path (sym at) named found
