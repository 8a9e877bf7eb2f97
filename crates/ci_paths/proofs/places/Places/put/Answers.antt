use Rattle.std.proofs.Common.{arith}
use Rattle.ci_paths.proofs.PlacesLemmas.{least_empty-set}
use Rattle.ci_paths.proofs.places.Places.put.Goals as goal

pub invariant_of-self : goal.invariant_of-self
invariant_of-self c = let keeps = least_empty-set c.self.inside.places.items c.args.number c.args.place in omega arith
