use Rattle.std.proofs.Common.{arith}
use Rattle.ci_segment.proofs.PostingsLemmas.{list_places}
use Rattle.ci_segment.proofs.places.read_places.Goals as goal

pub new-requires : goal.new-requires
new-requires c =
    list_places c.args.bytes.now c.in_ok-count.rest.now c.in_ok-list.rest.now c.in_ok-count.count c.in_ok-list.list.items (λ i. omega (arith, c.type_inv.bytes i))
    c.in_ok-count.ensures c.if-count-eq0.false c.in_ok-list.ensures
