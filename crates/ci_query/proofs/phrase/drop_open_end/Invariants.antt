use Rattle.std.proofs.Common.{◌≡◌, vec_len}
use Rattle.ci_dialect.specs.Words.{closed}
use Rattle.ci_query.proofs.phrase.drop_open_end.Given as goal

abbrev pub invariant-loop-slots : goal.invariant-loop-slots
invariant-loop-slots l = closed l.slots.items ≡ closed l.initial.slots.items

abbrev pub decreases-loop-slots : goal.decreases-loop-slots
decreases-loop-slots l = vec_len l.slots
