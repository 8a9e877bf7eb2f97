use Rattle.ci_segment.proofs.ReadLemmas.{one_postings}
use Rattle.ci_segment.proofs.postings.postings_law.Goals as goal

pub returns : goal.returns
returns c = one_postings
