use Rattle.std.proofs.Common.{arith, ap, length}
use Rattle.ci_paths.proofs.PlacesLemmas.{count-le}
use Rattle.ci_paths.proofs.numbers.Numbers.len.Goals as goal

pub overflow_cast-result : goal.overflow_cast-result
overflow_cast-result c = omega (arith, ap length c.items.ensures, c.self.invariant.count, c.self.invariant.bound, count-le c.self.inside.places)
