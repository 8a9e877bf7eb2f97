use Rattle.std.proofs.Common.{◌≡◌, ◌<◌, false, true, arith, get_or, length, subst, sym, ◌∙◌}
use Rattle.ci_keys.specs.declared.key.Key.{Key}
use Rattle.ci_part.specs.Range.{begins}
use Rattle.ci_part.proofs.RangeLemmas.{beginning_more, item_there, key_read, start_is, stop_is}
use Rattle.ci_part.proofs.range.add_segment.Goals as goal

pub loop-at-init : goal.loop-at-init
loop-at-init c = start_is c.args.keys.now.items c.args.segment.now c.args.first.now c.from-start.result c.from-start.ensures

pub returns-then-not-begins : goal.returns-then-not-begins
returns-then-not-begins c =
    let items = c.args.segment.now in
    let within : c.loop-at.at < length items = omega (arith, c.len-at-end.ensures.count, c.loop-at-test.true) in
    let d = item_there items c.loop-at.at within in
    let read : (get_or items c.loop-at.at d).0 ≡ c.in_ok-key.key = key_read items c.loop-at.at c.in_ok-key.key d within c.in_ok-key.ensures in
    let out : begins c.args.first.now c.in_ok-key.key ≡ false = sym c.begins.ensures ∙ c.if-not-begins.true in
    stop_is c.args.keys.now.items c.loop-at.keys.items items c.args.first.now c.from-start.result c.from-start.ensures c.len-at-end.ensures.keys.ascend c.loop-at.at d
    c.loop-at.auto.at within (subst (λ (key : Key). begins c.args.first.now key ≡ false) (sym read) out) c.loop-at.invariant

pub loop-at-preserved : goal.loop-at-preserved
loop-at-preserved c =
    let items = c.args.segment.now in
    let within : c.loop-at.at < length items = omega (arith, c.len-at-end.ensures.count, c.loop-at-test.true) in
    let d = item_there items c.loop-at.at within in
    let read : (get_or items c.loop-at.at d).0 ≡ c.in_ok-key.key = key_read items c.loop-at.at c.in_ok-key.key d within c.in_ok-key.ensures in
    let begun : begins c.args.first.now c.in_ok-key.key ≡ true = sym c.begins.ensures ∙ c.if-not-begins.false in
    beginning_more items c.args.first.now c.args.keys.now.items c.loop-at.keys.items c.push.new.self.items c.loop-at.at d c.in_ok-key.key within read begun c.loop-at.invariant c.in_ok-push.ensures.items
