use Rattle.std.proofs.Common.{◌-◌, ◌<◌, arith, get_or, length}
use Rattle.std.proofs.lemmas.List.{get_or_default}
use Rattle.ci_segment.specs.Segment.{Item}
use Rattle.ci_segment.proofs.SpotLemmas.{shared_first, shared_later}
use Rattle.ci_segment.proofs.build.shared_at.Goals as goal

pub returns-then-at-eq0 : goal.returns-then-at-eq0
returns-then-at-eq0 c = shared_first c.args.keys.now c.args.at c.requires c.if-at-eq0.true

pub returns : goal.returns
returns c =
    let b : Item = get_or c.args.keys.now (c.args.at - 1) c.index-keys-at.result in
    let x : Item = get_or c.args.keys.now c.args.at c.index-keys-at-2.result in
    let low : c.args.at - 1 < length c.args.keys.now = omega (arith, c.requires) in
    shared_later c.args.keys.now c.args.at c.leaning.result b x c.requires c.if-at-eq0.false
    (get_or_default c.args.keys.now (c.args.at - 1) c.index-keys-at.result b low) (get_or_default c.args.keys.now c.args.at c.index-keys-at-2.result x c.requires) c.leaning.ensures
