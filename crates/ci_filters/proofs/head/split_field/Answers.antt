use Rattle.ci_filters.proofs.HeadLemmas.{split_is_field}
use Rattle.ci_filters.proofs.head.split_field.Goals as goal

pub returns : goal.returns
returns c = split_is_field c.args.line.now c.split_once.result c.split_once.ensures.cases
