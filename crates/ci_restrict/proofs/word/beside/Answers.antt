use Rattle.ci_restrict.proofs.WordLemmas.{beside-are, beside-rise}
use Rattle.ci_restrict.proofs.word.beside.Goals as goal

pub returns-clause-places : goal.returns-clause-places
returns-clause-places c = beside-are c.args.key.now c.args.entry.now.words c.places.result.now c.words-words.ensures.words.ascend c.places.ensures

pub returns-clause-rise : goal.returns-clause-rise
returns-clause-rise c = beside-rise c.args.key.now c.args.entry.now.words c.places.result.now c.words-words.ensures.words.places c.places.ensures
