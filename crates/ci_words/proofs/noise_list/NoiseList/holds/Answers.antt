use Rattle.ci_words.proofs.NoiseLemmas.{searched}
use Rattle.ci_words.proofs.noise_list.NoiseList.holds.Goals as goal

pub returns : goal.returns
returns c =
    let found = searched c.deref.result.now c.args.word.now c.binary_search.result (rw c.deref.ensures.value c.self.invariant) c.binary_search.ensures.bound c.binary_search.ensures.position in
    rw (c.is_ok.ensures.value, ← c.self.view_is, ← c.deref.ensures.value) found
