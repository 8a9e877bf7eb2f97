use Rattle.std.proofs.Common.{sym, ◌∙◌}
use Rattle.ci_segment.proofs.ReadLemmas.{one_postings}
use Rattle.ci_segment.proofs.lookup.made_postings.Goals as goal

pub returns-in-Ok : goal.returns-in-Ok
returns-in-Ok c = λ postings are e. one_postings c.in-Ok.postings postings c.in-Ok.ensures.ok.0 are (c.in-Ok.ensures.ok.1 ∙ sym e)
