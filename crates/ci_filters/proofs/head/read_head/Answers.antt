use Rattle.std.proofs.Common.{◌≡◌, Some, sym, ap, ◌∙◌, rules}
use Rattle.ci_filters.specs.Head.{field_of, name_and_value}
use Rattle.ci_filters.proofs.WalkLemmas.{items_at_field, behind_at_field}
use Rattle.ci_filters.proofs.head.read_head.Goals as goal

pub lines-preserved : goal.lines-preserved
lines-preserved c =
    let line = c.in-Some.line.now in
    let behind = c.in-Some.behind.now in
    let name = c.in-Some-split_field.name.now in
    let value = c.in-Some-split_field.value.now in
    let field : field_of line ≡ Some (name, value) =
    ap name_and_value (sym c.without_return-line.ensures) ∙ sym c.in-Some-split_field.ensures in
    let next = c.in-Some.ensures in (
      search rules,
      items_at_field c.lines.items.items c.add_field.new.items.items c.lines.rest.now line behind (name, value) next.lines field c.in_ok-add_field-in-Some-split_field.ensures
          ∙ c.lines.invariant.1,
      behind_at_field c.lines.rest.now line behind (name, value) next.lines next.parts field ∙ c.lines.invariant.2,
    )
