use Rattle.std.proofs.Common.{arith}
use Rattle.ci_wire.proofs.NumbersLemmas.{u16_split}
use Rattle.ci_wire.proofs.fields.split_u16.Goals as goal

pub returns-clause-spelled : goal.returns-clause-spelled
returns-clause-spelled c =
    u16_split _ c.split_at.result.0.now _ _ c.split_at.ensures.front_len (λ i. omega (arith, c.type_inv.bytes i)) c.split_at.ensures.front c.split_at.ensures.back
    c.from_be_bytes.ensures
