use Rattle.ci_filters.proofs.HeardLemmas.{heard}
use Rattle.ci_filters.proofs.filter.FormatFilterFilter.init.Goals as goal

pub returns-clause-heard : goal.returns-clause-heard
returns-clause-heard g c = heard g.M.Format.format _ _ _ _ c.begin.ensures
