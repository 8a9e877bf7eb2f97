use Rattle.std.proofs.lemmas.Cmp.{nat_list_eq_equiv}
use Rattle.indexmap.proofs.CallerLemmas.{keys-with_value_at, updates-with_value_at}
use Rattle.ci_change.proofs.RowsLemmas.{Puts-from_lookup, path_at_place}
use Rattle.ci_change.proofs.rows.put_numbers.Goals as goal

pub returns-clause-paths : goal.returns-clause-paths
returns-clause-paths c = keys-with_value_at c.args.rows.now c.args.place c.args.numbers

pub returns-clause-puts : goal.returns-clause-puts
returns-clause-puts c path at =
    let row = c.pair_mut-kept.ensures in
    let same = path_at_place c.args.rows.now.entries c.args.place _ path row.value at in
    let put = updates-with_value_at c.args.rows.now c.args.place c.args.numbers nat_list_eq_equiv row.unique _ _ row.value in
    Puts-from_lookup _ _ _ path c.args.numbers same put.0
