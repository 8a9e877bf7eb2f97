use Rattle.std.proofs.Common.{◌∙◌, arith, get_or, length-set, refl}
use Rattle.std.proofs.lemmas.List.Elements.{Contains-get_or}
use Rattle.ci_pages.proofs.Linking.{all_linked, none_linked, one_linked}
use Rattle.ci_pages.proofs.table.link.Goals as goal

pub loop-at-init : goal.loop-at-init
loop-at-init c = record { size = refl; linked = λ once. none_linked c.args.links.now.items c.args.chain.now }

pub index_mut-requires : goal.index_mut-requires
index_mut-requires c =
    let chain = c.args.chain.now in
    let at = c.loop-at.at in
    omega (arith, c.requires (get_or chain at 0) (Contains-get_or chain at 0 c.loop-at-test.true), c.loop-at.invariant.size)

pub loop-at-preserved : goal.loop-at-preserved
loop-at-preserved c =
    let chain = c.args.chain.now in
    let at = c.loop-at.at in
    let page = c.requires (get_or chain at 0) (Contains-get_or chain at 0 c.loop-at-test.true) in
    record {
      size = length-set c.loop-at.links.items (get_or chain at 0) c.next_in.result ∙ c.loop-at.invariant.size;
      linked = λ once. one_linked c.args.links.now.items c.loop-at.links.items chain at c.next_in.result once c.loop-at-test.true page (c.loop-at.invariant.linked once) c.next_in.ensures;
    }

pub returns-clause-linked : goal.returns-clause-linked
returns-clause-linked c once = all_linked c.args.links.now.items c.loop-at.links.items c.args.chain.now c.loop-at.at (omega arith) (c.loop-at.invariant.linked once)
