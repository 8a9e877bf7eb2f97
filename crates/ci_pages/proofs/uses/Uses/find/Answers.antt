use Rattle.std.proofs.Common.{arith}
use Rattle.ci_pages.proofs.Frees.{found_all}
use Rattle.ci_pages.proofs.uses.Uses.find.Goals as goal

pub returns-clause-count : goal.returns-clause-count
returns-clause-count c =
    let uses = c.args.self.now.pages.items in
    let so_far = c.loop-block.invariant in
    found_all uses c.loop-block.stop c.loop-block.out.items c.args.wanted so_far.so_far so_far.count
    (λ fewer. omega (arith, so_far.begun fewer, c.args.self.now.flagged.covers)) c.requires.enough
