use Rattle.std.proofs.Common.{◌<◌, ◌≡◌, ◌*◌, ◌∙◌, arith, length, min, false, sym}
use Rattle.std.proofs.lemmas.List.{get_or_read}
use Rattle.ci_pages.proofs.Frees.{passed_over}
use Rattle.ci_pages.proofs.Counting.{none_in_block}
use Rattle.ci_pages.proofs.uses.Uses.pass_block.Goals as goal

pub returns-then-not-index-clause-found : goal.returns-then-not-index-clause-found
returns-then-not-index-clause-found c =
    let uses = c.args.self.now.pages.items in
    let flags = c.args.self.now.blocks.items in
    let fewer : length c.args.out.now.items < c.args.wanted = omega arith in
    let begun : c.args.from ≡ min (512 * c.args.block) (length uses) = c.requires.begun fewer in
    let unset = sym (get_or_read flags c.args.block c.index.result.now c.requires.block c.index.ensures false) ∙ c.if-not-index.true in
    passed_over uses c.args.from c.min-end.result c.args.out.now.items (omega arith) (omega arith)
    (λ page le below. none_in_block uses flags c.args.block (512 * c.args.block) c.min-end.result c.args.self.now.flagged unset (omega arith) (omega arith) page (omega (arith, begun, le, below)) below) c.requires.so_far
