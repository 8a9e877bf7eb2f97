use Rattle.ci_base.proofs.VarintLemmas.{varint_value, varint_length, no_varint}
use Rattle.ci_base.proofs.varint.get_varint.Goals as goal

pub returns-clause-value : goal.returns-clause-value
returns-clause-value c = varint_value _ _ c.read_groups.ensures.small c.read_groups.ensures.value

pub returns-clause-length : goal.returns-clause-length
returns-clause-length c = varint_length _ c.read_groups.ensures.length

pub returns-clause-none : goal.returns-clause-none
returns-clause-none c = no_varint _ _ c.read_groups.ensures.none
