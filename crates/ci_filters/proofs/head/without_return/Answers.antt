use Rattle.std.proofs.Common.{None, sym, lit<}
use Rattle.std.proofs.lemmas.Str.Pattern.{strip_suffix_char}
use Rattle.ci_filters.proofs.HeadLemmas.{not_stripped}
use Rattle.ci_filters.proofs.head.without_return.Goals as goal

pub returns-in-None : goal.returns-in-None
returns-in-None c =
    sym (not_stripped c.args.line.now (strip_suffix_char 13 c.args.line.now None c.in-None.ensures.cases (lit< tt)))
