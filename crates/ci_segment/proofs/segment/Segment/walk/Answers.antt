use Rattle.std.proofs.Common.{◌≡◌, ◌-◌, min, ◌<◌, ◌≤◌, ◌*◌, ◌+◌, ◌%◌, ap, arith, false, length, subst, sym, ◌∙◌}
use Rattle.std.specs.declared.cmp.Ordering.TheVariants.{Greater}
use Rattle.ci_keys.specs.Key.{key_cmp}
use Rattle.ci_front.proofs.FrontLemmas.{some_is}
use Rattle.ci_segment.specs.Finding.{IsFoundAt}
use Rattle.ci_segment.specs.Segment.{Item}
use Rattle.ci_segment.specs.SegmentReading.{fields_in}
use Rattle.ci_segment.proofs.PlaceLemmas.{fields_some, step_on}
use Rattle.ci_segment.proofs.SeekLemmas.{walk_began, walk_found, walk_over, walk_passed}
use Rattle.ci_segment.proofs.WalkLemmas.{compared_here, past_on}
use Rattle.ci_segment.proofs.segment.Segment.walk.Goals as goal

pub overflow_mul-start : goal.overflow_mul-start
overflow_mul-start g c = omega (arith, c.requires.within, c.from_block-rest.ensures.grammar.few)

pub front_key-requires : goal.front_key-requires
front_key-requires g c =
    let within : c.loop-at.at < length c.args.self.now = omega (arith, c.loop-at-test.true, c.min.ensures, c.len.ensures.count, c.requires.within) in
    fields_some c.args.self.now c.loop-at.at c.loop-at.rest.now c.from_block-rest.ensures.grammar within c.loop-at.invariant.here

pub returns-in-Equal-clause-found : goal.returns-in-Equal-clause-found
returns-in-Equal-clause-found g c =
    let start = c.args.block * 16 in
    let within : c.loop-at.at < length c.args.self.now = omega (arith, c.loop-at-test.true, c.min.ensures, c.len.ensures.count, c.requires.within) in
    let near : c.loop-at.at < start + 16 = omega (arith, c.loop-at-test.true, c.min.ensures) in
    let first : start % 16 ≡ 0 = omega arith in
    let r = compared_here c.args.self.now c.args.key.now start c.loop-at.at c.loop-at.same c.loop-at.rest.now (fields_in c.front_key.result.0) c.front_key.result.1.now c.from_block-rest.ensures.grammar first c.loop-at.auto.at near within
    c.loop-at.invariant.here c.front_key.ensures c.loop-at.invariant.past in
    walk_found c.args.self.now c.args.key.now start c.loop-at.at c.loop-at.same r.0 c.from_block-rest.ensures.grammar c.loop-at.auto.at c.loop-at.invariant.past r.1 (sym r.2 ∙ sym c.compare-order.ensures.order ∙ c.in-Equal.is)

pub returns-in-Greater-clause-found : goal.returns-in-Greater-clause-found
returns-in-Greater-clause-found g c =
    let start = c.args.block * 16 in
    let within : c.loop-at.at < length c.args.self.now = omega (arith, c.loop-at-test.true, c.min.ensures, c.len.ensures.count, c.requires.within) in
    let near : c.loop-at.at < start + 16 = omega (arith, c.loop-at-test.true, c.min.ensures) in
    let first : start % 16 ≡ 0 = omega arith in
    let r = compared_here c.args.self.now c.args.key.now start c.loop-at.at c.loop-at.same c.loop-at.rest.now (fields_in c.front_key.result.0) c.front_key.result.1.now c.from_block-rest.ensures.grammar first c.loop-at.auto.at near within
    c.loop-at.invariant.here c.front_key.ensures c.loop-at.invariant.past in
    let greater : key_cmp r.0.0 c.args.key.now ≡ Greater = sym r.2 ∙ sym c.compare-order.ensures.order ∙ c.in-Greater.is in
    walk_passed c.args.self.now c.args.key.now start c.loop-at.at c.loop-at.same c.from_block-rest.ensures.grammar (walk_began c.args.self.now c.args.key.now c.args.block c.loop-at.at r.0 c.requires c.loop-at.auto.at r.1 greater) (omega (arith, within))
    c.loop-at.invariant.past (λ x there. subst (λ (y : Item). key_cmp y.0 c.args.key.now ≡ Greater) (some_is r.0 x (sym r.1 ∙ there)) greater)

pub loop-at-preserved : goal.loop-at-preserved
loop-at-preserved g c =
    let start = c.args.block * 16 in
    let within : c.loop-at.at < length c.args.self.now = omega (arith, c.loop-at-test.true, c.min.ensures, c.len.ensures.count, c.requires.within) in
    let near : c.loop-at.at < start + 16 = omega (arith, c.loop-at-test.true, c.min.ensures) in
    let first : start % 16 ≡ 0 = omega arith in
    let r = compared_here c.args.self.now c.args.key.now start c.loop-at.at c.loop-at.same c.loop-at.rest.now (fields_in c.front_key.result.0) c.front_key.result.1.now c.from_block-rest.ensures.grammar first c.loop-at.auto.at near within
    c.loop-at.invariant.here c.front_key.ensures c.loop-at.invariant.past in
    let order = sym c.compare-order.ensures.order ∙ c.in-Less.is in
    record {
      here = step_on c.args.self.now c.loop-at.at c.loop-at.rest.now (fields_in c.front_key.result.0) c.front_key.result.1.now c.from_block-rest.ensures.grammar within c.loop-at.invariant.here c.front_key.ensures;
      past = past_on c.args.self.now c.args.key.now start c.loop-at.at c.compare-order.result.1 r.0 c.loop-at.auto.at r.1 (sym r.2 ∙ order) (c.compare-order.ensures.same ∙ r.3 order);
      cost = omega (arith, c.loop-at.invariant.cost, c.compare-order.ensures.step);
    }

pub returns-clause-found : goal.returns-clause-found
returns-clause-found g c =
    let start = c.args.block * 16 in
    let end : c.loop-at.at ≡ start + c.min.result = omega (arith, c.loop-at-test.false, c.loop-at.auto.at-end, c.loop-at.auto.at) in
    let some : start < c.loop-at.at = omega (arith, end, c.min.ensures, c.len.ensures.count, c.requires.within) in
    let within : c.loop-at.at ≤ length c.args.self.now = omega (arith, end, c.min.ensures, c.len.ensures.count, c.requires.within) in
    let last = end ∙ ap (λ n. start + n) c.min.ensures ∙ ap (λ n. start + min (n - start) 16) c.len.ensures.count in
    subst (λ n. IsFoundAt c.args.self.now c.args.key.now n false) end
    (walk_passed c.args.self.now c.args.key.now start c.loop-at.at c.loop-at.same c.from_block-rest.ensures.grammar some within c.loop-at.invariant.past (walk_over c.args.self.now c.args.key.now c.args.block c.loop-at.at c.requires last))
