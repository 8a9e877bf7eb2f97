use Rattle.ci_base.specs.Varint.{varint}
use Rattle.ci_base.proofs.VarintLemmas.{one_number}
use Rattle.ci_base.proofs.varint.varint_law.Goals as goal

pub returns : goal.returns
unfolding varint
returns c a b rest more same = one_number 9 a b rest more same
