use Rattle.std.proofs.Common.{subst}
use Rattle.std.proofs.lemmas.List.{take_all}
use Rattle.ci_holdings.proofs.ServingLemmas.{HavePlaces, HavePlaces-more, KeepsEntries-after}
use Rattle.ci_holdings.proofs.serving.make_places.Goals as goal

pub loop-path-preserved : goal.loop-path-preserved
loop-path-preserved c = (
  KeepsEntries-after _ _ _ c.loop-path.invariant.0 c.in_ok-make_place.ensures.keeps,
  HavePlaces-more _ _ c.args.docs.now c.loop-path.path-index c.loop-path-item.result c.loop-path-test.true c.loop-path-item.is c.in_ok-make_place.ensures.keeps c.in_ok-make_place.ensures.place c.loop-path.invariant.1,
)

pub returns-clause-places : goal.returns-clause-places
returns-clause-places c =
    subst (HavePlaces c.loop-path.documents.entries) (take_all c.loop-path.path-index c.args.docs.now c.loop-path-test.false) c.loop-path.invariant.1
