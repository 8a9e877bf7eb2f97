use Rattle.std.proofs.Common.{◌∙◌}
use Rattle.ci_filters.proofs.ItemLemmas.{name_short}
use Rattle.ci_filters.proofs.items.filename.Goals as goal

pub new-requires : goal.new-requires
new-requires c = name_short c.args.path.now c.in_ok-name.name c.as_str.ensures.path (c.in_ok-name.ensures ∙ c.last_part.ensures)
