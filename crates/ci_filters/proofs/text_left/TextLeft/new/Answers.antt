use Rattle.std.proofs.lemmas.Str.{IsCharBoundary-start}
use Rattle.ci_filters.proofs.text_left.TextLeft.new.Goals as goal

pub invariant_of-result : goal.invariant_of-result
invariant_of-result c = IsCharBoundary-start c.args.text (rw c.as_str.ensures at c.as_str.utf8)
