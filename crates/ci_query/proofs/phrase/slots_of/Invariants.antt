use Rattle.std.proofs.Common.{◌≡◌, take}
use Rattle.ci_query.proofs.PhraseLemmas.{begun}
use Rattle.ci_query.proofs.phrase.slots_of.Given as goal

abbrev pub invariant-loop-word : goal.invariant-loop-word
invariant-loop-word l = l.slots.items ≡ begun l.noise (take l.word-index l.words)
