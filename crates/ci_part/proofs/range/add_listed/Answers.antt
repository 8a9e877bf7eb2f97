use Rattle.std.proofs.Common.{sym, ◌∙◌}
use Rattle.ci_part.proofs.RangeLemmas.{start_is, stop_is}
use Rattle.ci_part.proofs.range.add_listed.Goals as goal

pub loop-at-init : goal.loop-at-init
loop-at-init c = start_is c.args.keys.now.items c.args.items.now c.args.first.now c.place_of-start.result c.place_of-start.ensures

pub returns-then-not-begins : goal.returns-then-not-begins
returns-then-not-begins c =
    stop_is c.args.keys.now.items c.loop-at.keys.items c.args.items.now c.args.first.now c.place_of-start.result c.place_of-start.ensures c.requires c.loop-at.at c.index-items-at.result
    c.loop-at.auto.at c.loop-at-test.true (sym c.begins.ensures ∙ c.if-not-begins.true) c.loop-at.invariant
