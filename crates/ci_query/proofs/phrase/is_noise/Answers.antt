use Rattle.ci_query.proofs.PhraseLemmas.{noise_is}
use Rattle.ci_query.proofs.phrase.is_noise.Goals as goal

pub returns : goal.returns
returns c = noise_is c.args.noise.now c.args.word.now c.holds.result c.holds.ensures
