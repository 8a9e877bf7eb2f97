use Rattle.std.proofs.Common.{arith}
use Rattle.ci_paths.proofs.PlacesLemmas.{least_empty-here, least_empty-le, least_empty-past}
use Rattle.ci_paths.proofs.places.first_empty.Goals as goal

pub returns-then-is_none : goal.returns-then-is_none
returns-then-is_none c = least_empty-here c.args.places.now c.loop-at.at c.loop-at.invariant c.if-is_none.ensures

pub loop-at-preserved : goal.loop-at-preserved
loop-at-preserved c = least_empty-past c.args.places.now c.loop-at.at c.loop-at.invariant c.if-is_none.ensures

pub returns : goal.returns
returns c = omega (arith, least_empty-le c.args.places.now)
