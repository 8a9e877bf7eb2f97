use Rattle.std.proofs.Common.{rules, ◌≡◌, map, refl, ap}
use Rattle.std.proofs.Common.{◌==◌}
use Rattle.std.specs.Option.{option_map}
use Rattle.std.proofs.lemmas.Iterator.{YieldsList-from_slice}
use Rattle.std.proofs.lemmas.Iterator.Search.{find_from_yields_List}
use Rattle.ci_props.specs.Table.{table}
use Rattle.ci_props.proofs.Rows.{as_row, of_found_row}
use Rattle.ci_props.proofs.property.name_of.Goals as goal

pub returns : goal.returns
returns c =
    let found = find_from_yields_List (λ x. x.0 == c.args.property.0) _ _ c.find.result c.find.ensures.ran (YieldsList-from_slice c.iter.result.rest.now refl) (λ x b q k. search rules) in
    let read : option_map (λ name. name.now) c.map.result ≡ option_map (λ row. row.now.1.now) c.find.result = search rules in
    of_found_row (λ x. x.now) (λ row. row.name) (λ row. row.number == c.args.property.0) c.iter.result.rest.now table c.find.result (option_map (λ name. name.now) c.map.result) (ap (map as_row) c.iter.ensures.rest) read found
