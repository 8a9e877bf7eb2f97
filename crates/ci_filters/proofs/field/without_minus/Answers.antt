use Rattle.std.proofs.Common.{None, sym, lit<}
use Rattle.std.proofs.lemmas.Str.Pattern.{strip_prefix_char}
use Rattle.ci_filters.proofs.NumberLemmas.{without_minus-none}
use Rattle.ci_filters.proofs.field.without_minus.Goals as goal

pub returns-in-None : goal.returns-in-None
returns-in-None c =
    sym (without_minus-none c.args.value.now (strip_prefix_char 45 c.args.value.now None c.in-None.ensures.cases (lit< tt)))
