use Rattle.std.proofs.Common.{◌≡◌, ◌<◌, ◌≤◌, ◌*◌, ◌+◌, ◌/◌, ◌%◌, ◌++◌, ap, arith, length, subst, sym, ◌∙◌}
use Rattle.std.specs.Prelude.{IsUtf8}
use Rattle.ci_segment.specs.SegmentReading.{fields_in}
use Rattle.ci_segment.proofs.PlaceLemmas.{IsWalked, fields_some, made_at, walk_on, walked_key}
use Rattle.ci_segment.proofs.segment.Segment.key_at.Goals as goal

pub front_key-requires : goal.front_key-requires
front_key-requires c =
    let start = 16 * (c.args.index / 16) in
    let within : start + c.loop.counter < length c.args.self.now = omega (arith, c.loop-test.true, c.requires) in
    fields_some c.args.self.now (start + c.loop.counter) c.loop.rest.now c.from_block-rest.ensures.grammar within c.loop.invariant.here

pub loop-preserved : goal.loop-preserved
loop-preserved c =
    let start = 16 * (c.args.index / 16) in
    let at = start + c.loop.counter in
    let within : at < length c.args.self.now = omega (arith, c.loop-test.true, c.requires) in
    let first : start % 16 ≡ 0 = omega arith in
    let above : start ≤ at = omega arith in
    let next : at + 1 ≡ start + (c.loop.counter + 1) = omega arith in
    let grown = c.in_ok-extend_from_slice.ensures.items ∙ ap (λ w. w ++ c.front_key.result.0.others.now) c.truncate.ensures.items in
    subst (λ n. IsWalked c.args.self.now start n c.front_key.result.1.now c.front_key.result.0.property c.extend_from_slice.new.self.items) next
    (walk_on c.args.self.now start at c.loop.rest.now c.loop.property c.loop.word.items (fields_in c.front_key.result.0) c.front_key.result.1.now c.extend_from_slice.new.self.items c.from_block-rest.ensures.grammar first above within
    c.loop.invariant c.front_key.ensures grown)

pub made_key-requires-clause-property : goal.made_key-requires-clause-property
made_key-requires-clause-property c =
    let start = 16 * (c.args.index / 16) in
    let end : start + c.loop.counter ≡ c.args.index + 1 = omega (arith, c.loop-test.false, c.loop.auto.counter-end) in
    let above : start ≤ c.args.index = omega arith in
    (walked_key c.args.self.now start c.args.index c.loop.rest.now c.loop.property c.loop.word.items c.from_block-rest.ensures.grammar above c.requires
    (subst (λ n. IsWalked c.args.self.now start n c.loop.rest.now c.loop.property c.loop.word.items) end c.loop.invariant)).1

pub made_key-requires-clause-text : goal.made_key-requires-clause-text
made_key-requires-clause-text c =
    let start = 16 * (c.args.index / 16) in
    let end : start + c.loop.counter ≡ c.args.index + 1 = omega (arith, c.loop-test.false, c.loop.auto.counter-end) in
    let above : start ≤ c.args.index = omega arith in
    subst (λ w. IsUtf8 w) (sym c.as_slice.ensures.value) (walked_key c.args.self.now start c.args.index c.loop.rest.now c.loop.property c.loop.word.items c.from_block-rest.ensures.grammar above c.requires
    (subst (λ n. IsWalked c.args.self.now start n c.loop.rest.now c.loop.property c.loop.word.items) end c.loop.invariant)).0

pub returns : goal.returns
returns c =
    let start = 16 * (c.args.index / 16) in
    let end : start + c.loop.counter ≡ c.args.index + 1 = omega (arith, c.loop-test.false, c.loop.auto.counter-end) in
    let above : start ≤ c.args.index = omega arith in
    made_at c.args.self.now c.args.index c.loop.property c.as_slice.result.now c.loop.word.items c.made_key.result c.as_slice.ensures.value
    (walked_key c.args.self.now start c.args.index c.loop.rest.now c.loop.property c.loop.word.items c.from_block-rest.ensures.grammar above c.requires
    (subst (λ n. IsWalked c.args.self.now start n c.loop.rest.now c.loop.property c.loop.word.items) end c.loop.invariant)).2 c.made_key.ensures
