use Rattle.ci_index_rows.proofs.PartsLemmas.{view_of}
use Rattle.ci_index_rows.proofs.view.rows_told.Goals as goal

pub new-requires : goal.new-requires
new-requires c = record { one_to_one = view_of c.args.parts.now c.requires }
