use Rattle.std.proofs.Common.{◌≡◌, ◌<◌, ◌*◌, ◌+◌, ◌/◌, ap, arith, length, ◌∙◌}
use Rattle.ci_segment.specs.SegmentReading.{fields_in}
use Rattle.ci_segment.specs.Tail.{tail_at}
use Rattle.ci_segment.proofs.PlaceLemmas.{fields_some, given_at, step_on, walked_postings}
use Rattle.ci_segment.proofs.segment.Segment.postings_at.Goals as goal

pub front_key-requires : goal.front_key-requires
front_key-requires c =
    let start = 16 * (c.args.index / 16) in
    let within : start + c.loop.counter < length c.args.self.now = omega (arith, c.loop-test.true, c.requires) in
    fields_some c.args.self.now (start + c.loop.counter) c.loop.rest.now c.from_block-rest.ensures.grammar within c.loop.invariant

pub loop-preserved : goal.loop-preserved
loop-preserved c =
    let start = 16 * (c.args.index / 16) in
    let within : start + c.loop.counter < length c.args.self.now = omega (arith, c.loop-test.true, c.requires) in
    let next : start + c.loop.counter + 1 ≡ start + (c.loop.counter + 1) = omega arith in
    step_on c.args.self.now (start + c.loop.counter) c.loop.rest.now (fields_in c.front_key.result.0) c.front_key.result.1.now c.from_block-rest.ensures.grammar within c.loop.invariant c.front_key.ensures
    ∙ ap (tail_at c.args.self.now) next

pub front_key-requires-2 : goal.front_key-requires-2
front_key-requires-2 c =
    let end : 16 * (c.args.index / 16) + c.loop.counter ≡ c.args.index = omega (arith, c.loop-test.false, c.loop.auto.counter-end) in
    fields_some c.args.self.now c.args.index c.loop.rest.now c.from_block-rest.ensures.grammar c.requires (c.loop.invariant ∙ ap (tail_at c.args.self.now) end)

pub made_postings-requires : goal.made_postings-requires
made_postings-requires c =
    let end : 16 * (c.args.index / 16) + c.loop.counter ≡ c.args.index = omega (arith, c.loop-test.false, c.loop.auto.counter-end) in
    let p = walked_postings c.args.self.now c.args.index c.loop.rest.now (fields_in c.front_key-2.result.0) c.front_key-2.result.1.now c.from_block-rest.ensures.grammar c.requires (c.loop.invariant ∙ ap (tail_at c.args.self.now) end) c.front_key-2.ensures in
    (p.0, p.1, p.2)

pub returns : goal.returns
returns c =
    let end : 16 * (c.args.index / 16) + c.loop.counter ≡ c.args.index = omega (arith, c.loop-test.false, c.loop.auto.counter-end) in
    let p = walked_postings c.args.self.now c.args.index c.loop.rest.now (fields_in c.front_key-2.result.0) c.front_key-2.result.1.now c.from_block-rest.ensures.grammar c.requires (c.loop.invariant ∙ ap (tail_at c.args.self.now) end) c.front_key-2.ensures in
    given_at c.args.self.now c.args.index c.front_key-2.result.0.postings.now p.0 c.made_postings.result p.1 p.2 p.3 c.made_postings.ensures
