use Rattle.std.proofs.Common.{arith, ap, ◌∙◌, sym, Some}
use Rattle.ci_front.proofs.FrontLemmas.{number_found, number_lacks}
use Rattle.ci_front.proofs.front.number_front.Goals as goal

pub returns-in-None : goal.returns-in-None
returns-in-None c = number_lacks c.args.bytes.now (λ i. omega (arith, c.type_inv.bytes i)) c.in-None.ensures.none

pub returns-in-Some : goal.returns-in-Some
returns-in-Some c =
    number_found c.args.bytes.now c.in-Some.number c.in-Some.count c.in-Some.ensures.value c.in-Some.ensures.length ∙ ap (λ r. Some (c.in-Some.number, r)) (sym c.split_at.ensures.back)
