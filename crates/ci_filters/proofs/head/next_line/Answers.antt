use Rattle.std.proofs.Common.{lit<}
use Rattle.std.proofs.lemmas.Str.Pattern.{split_parts}
use Rattle.ci_filters.proofs.HeadLemmas.{lines_of_split, parts_of_split}
use Rattle.ci_filters.proofs.head.next_line.Goals as goal

pub returns-clause-lines : goal.returns-clause-lines
returns-clause-lines c =
    lines_of_split c.args.text.now c.split_once.result (split_parts 10 c.args.text.now c.split_once.result c.split_once.ensures.cases (lit< tt))

pub returns-clause-parts : goal.returns-clause-parts
returns-clause-parts c =
    parts_of_split c.args.text.now c.split_once.result (split_parts 10 c.args.text.now c.split_once.result c.split_once.ensures.cases (lit< tt))
