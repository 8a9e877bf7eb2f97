use Rattle.std.proofs.Common.{None}
use Rattle.std.proofs.lemmas.Result.{err_from_is_err_and}
use Rattle.ci_segment.specs.Chain.{chain_at}
use Rattle.ci_segment.specs.Postings.{after_place}
use Rattle.ci_segment.specs.Reading.{place_at}
use Rattle.ci_segment.proofs.ChainLemmas.{chain_goes_on, chain_done}
use Rattle.ci_segment.proofs.ReadLemmas.{list_ends}
use Rattle.ci_segment.proofs.places.read_list.Goals as goal

pub returns-in_err-place : goal.returns-in_err-place
returns-in_err-place c =
    let p = err_from_is_err_and c.from_residual.result c.from_residual.ensures.1 in
    rw (p.1, p.2) (list_ends place_at after_place c.in_err-place.field-0.0 c.loop.list.items c.args.count c.loop.counter c.loop.before c.loop.rest.now (chain_at place_at after_place None c.args.count c.args.bytes.now) c.loop-test.true c.in_err-place.ensures c.loop.invariant)

pub loop-preserved : goal.loop-preserved
loop-preserved c =
    rw c.in_ok-push.ensures.items (chain_goes_on place_at after_place c.loop.list.items c.args.count c.loop.counter c.loop.before c.loop.rest.now c.in_ok-place.place c.in_ok-place.after.now (chain_at place_at after_place None c.args.count c.args.bytes.now) c.loop-test.true c.in_ok-place.ensures c.loop.invariant)

pub returns : goal.returns
returns c = chain_done place_at after_place c.loop.list.items c.args.count c.loop.counter c.loop.before c.loop.rest.now (chain_at place_at after_place None c.args.count c.args.bytes.now) c.loop-test.false c.loop.invariant
