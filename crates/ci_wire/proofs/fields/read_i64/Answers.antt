use Rattle.std.proofs.Common.{arith}
use Rattle.ci_wire.proofs.NumbersLemmas.{i64_of}
use Rattle.ci_wire.proofs.fields.read_i64.Goals as goal

pub returns : goal.returns
returns c = i64_of _ _ c.requires (λ i. omega (arith, c.type_inv.bytes i)) c.from_be_bytes.ensures
