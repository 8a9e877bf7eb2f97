use Rattle.std.proofs.Common.{List, subst, sym, ◌∙◌}
use Rattle.ci_rows_format.specs.declared.row.Row.{Row}
use Rattle.ci_wordlist.specs.WordList.{AreKeys, Keys}
use Rattle.ci_part.specs.Keys.{all_keys}
use Rattle.ci_index_rows.proofs.parts.kept_of.Goals as goal

pub new-requires-clause-keys : goal.new-requires-clause-keys
new-requires-clause-keys c =
    subst (λ (rows : List Row). AreKeys rows (all_keys c.in_ok-segments.segments.items)) (sym (c.in_ok-rows.ensures ∙ c.rows.ensures.rows))
    (subst (λ (keys : Keys). AreKeys c.args.list.now.rows keys) (sym c.in_ok-segments.ensures.keys) c.in_ok-segments.ensures.order)
