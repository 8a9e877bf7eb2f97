use Rattle.ci_wire.proofs.LawLemmas.{frame_not_bad, frame_not_partial, one_frame, one_list}
use Rattle.ci_wire.proofs.StreamLemmas.{bad_more, partial_not_bad}
use Rattle.ci_wire.proofs.law.wire_law.Goals as goal

pub returns-clause-one : goal.returns-clause-one
returns-clause-one c a b rest more p q e = (one_frame a b rest more p q e).0

pub returns-clause-one_list : goal.returns-clause-one_list
returns-clause-one_list c bytes frames others rest more p q = one_list bytes frames others rest more p q

pub returns-clause-not_partial : goal.returns-clause-not_partial
returns-clause-not_partial c bytes rest frame begins = frame_not_partial bytes rest frame begins

pub returns-clause-not_bad : goal.returns-clause-not_bad
returns-clause-not_bad c bytes rest frame begins = frame_not_bad bytes rest frame begins

pub returns-clause-not_both : goal.returns-clause-not_both
returns-clause-not_both c bytes partial = partial_not_bad bytes partial

pub returns-clause-stays_bad : goal.returns-clause-stays_bad
returns-clause-stays_bad c bytes more bad = bad_more bytes more bad
