use Rattle.std.proofs.Common.{arith, length, ap}
use Rattle.std.proofs.lemmas.List.{drop_all}
use Rattle.ci_holdings.proofs.ServingLemmas.{AreKnown-told, HavePlaces-at, HavePlaces-settled, IsOnTheWay-all, IsOnTheWay-next, AreKnown-at, drop-next, told-all, told-next}
use Rattle.ci_holdings.proofs.serving.settle_all.Goals as goal

pub settle-requires-clause-known : goal.settle-requires-clause-known
settle-requires-clause-known c =
    AreKnown-at c.loop-path.changes c.args.docs.now c.loop-path.path-index c.loop-path-item.result c.loop-path-test.true c.loop-path-item.is c.loop-path.invariant.known

pub settle-requires-clause-place : goal.settle-requires-clause-place
settle-requires-clause-place c =
    HavePlaces-at _ c.args.docs.now c.loop-path.path-index c.loop-path-item.result c.loop-path-test.true c.loop-path-item.is c.loop-path.invariant.places

pub loop-path-preserved : goal.loop-path-preserved
loop-path-preserved c =
    let i = c.in-Some.ensures.items in
    let next = drop-next c.args.docs.now c.loop-path.path-index c.loop-path-item.result c.loop-path-test.true c.loop-path-item.is in record {
      each = omega (arith, c.loop-path.invariant.each, ap length i);
      known = AreKnown-told _ _ _ _ c.args.docs.now c.settle.ensures.changes c.loop-path.invariant.known;
      told = told-next _ _ _ c.loop-path-item.result c.in-Some.verdict _ _ _ _ next i c.loop-path.invariant.told c.settle.ensures.changes;
      places = HavePlaces-settled _ _ _ _ _ c.args.docs.now c.settle.ensures.settles c.loop-path.invariant.places;
      way = λ served numbers stands.
          IsOnTheWay-next served _ _ c.loop-path.changes _ _ _ c.loop-path-item.result c.in-Some.verdict _ _ _ _ next i (c.loop-path.invariant.way served numbers stands)
          c.settle.ensures.changes c.settle.ensures.settles;
    }

pub returns-clause-changes : goal.returns-clause-changes
returns-clause-changes c =
    told-all _ _ _ _ c.loop-path.invariant.told (drop_all c.loop-path.path-index c.args.docs.now c.loop-path-test.false)

pub returns-clause-stands : goal.returns-clause-stands
returns-clause-stands c served numbers stands =
    IsOnTheWay-all served _ _ _ _ _ _ (c.loop-path.invariant.way served numbers stands) (drop_all c.loop-path.path-index c.args.docs.now c.loop-path-test.false)
