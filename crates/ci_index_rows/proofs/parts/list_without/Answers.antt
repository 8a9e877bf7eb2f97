use Rattle.std.proofs.Common.{◌≡◌, ◌++◌, [], ◌∷◌, List, ap, subst, sym, ◌∙◌}
use Rattle.ci_rows_format.specs.declared.row.Row.{Row}
use Rattle.ci_wordlist.specs.WordList.{AreRows}
use Rattle.ci_index_rows.proofs.PartsLemmas.{one_row}
use Rattle.ci_index_rows.proofs.parts.list_without.Goals as goal

pub from_batch-requires-clause-rows : goal.from_batch-requires-clause-rows
from_batch-requires-clause-rows c =
    let row = c.in_ok-row_of.field-0 in
    subst AreRows (sym (c.in_ok-push.ensures.items ∙ ap (λ (rows : List Row). rows ++ row ∷ []) c.new-rows.ensures.items)) (one_row row c.in_ok-row_of.ensures.bare)
