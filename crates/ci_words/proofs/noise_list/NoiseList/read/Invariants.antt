use Rattle.std.proofs.Common.{length}
use Rattle.ci_words.proofs.NoiseLemmas.{ReadSoFar}
use Rattle.ci_words.proofs.noise_list.NoiseList.read.Given as goal

abbrev pub invariant-loop-first : goal.invariant-loop-first
invariant-loop-first l = ReadSoFar l.bytes l.rest l.line l.list.items

abbrev pub decreases-loop-first : goal.decreases-loop-first
decreases-loop-first l = length l.rest
