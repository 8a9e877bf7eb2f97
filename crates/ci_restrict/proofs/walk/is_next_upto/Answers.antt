use Rattle.ci_restrict.proofs.WalkLemmas.{first-decides}
use Rattle.ci_restrict.proofs.walk.is_next_upto.Goals as goal

pub returns-in-len1-up : goal.returns-in-len1-up
returns-in-len1-up c = λ low begins. first-decides c.args.high low c.args.places.now c.from.result c.requires begins c.in-len1-up.len_at_least c.from.ensures
