use Rattle.std.proofs.Common.{subst, sym}
use Rattle.ci_keys.specs.Postings.{IsPostings}
use Rattle.ci_part.proofs.BesideLemmas.{none_are_postings}
use Rattle.ci_part.proofs.lookup.no_postings.Goals as goal

pub new-requires-2 : goal.new-requires-2
new-requires-2 c = subst IsPostings (sym c.new.ensures.items) none_are_postings
