use Rattle.std.proofs.lemmas.Slice.Eq.{slice_eq-Decides}
use Rattle.ci_play.proofs.SameLemmas.{docs-Decides}
use Rattle.ci_play.proofs.same.are_same.Goals as goal

pub returns : goal.returns
returns c = slice_eq-Decides docs-Decides c.args.one.now c.args.other.now c.eq.result c.eq.ensures
