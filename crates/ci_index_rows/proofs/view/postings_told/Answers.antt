use Rattle.ci_index_rows.proofs.PartsLemmas.{view_of}
use Rattle.ci_index_rows.proofs.view.postings_told.Goals as goal

pub new-view-requires : goal.new-view-requires
new-view-requires c = record { one_to_one = view_of c.args.parts.now c.requires }
