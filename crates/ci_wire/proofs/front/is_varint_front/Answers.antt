use Rattle.std.proofs.Common.{arith, ◌∙◌, sym}
use Rattle.std.proofs.lemmas.Bool.{ltb-true}
use Rattle.ci_wire.proofs.FrontLemmas.{front_from_test, test_from_front}
use Rattle.ci_wire.proofs.front.is_varint_front.Goals as goal

pub returns-then-bytes-lt10 : goal.returns-then-bytes-lt10
returns-then-bytes-lt10 c = (
  λ test. front_from_test _ (λ i. omega (arith, c.type_inv.bytes i)) c.if-bytes-lt10.true (sym c.have_top_bits.ensures ∙ test),
  λ front. c.have_top_bits.ensures ∙ (test_from_front _ front).1,
)

pub returns-else-bytes-lt10 : goal.returns-else-bytes-lt10
returns-else-bytes-lt10 c = (
  λ test. absurd (omega (arith, ltb-true _ _ test, c.if-bytes-lt10.false)),
  λ front. absurd (omega (arith, (test_from_front _ front).0, c.if-bytes-lt10.false)),
)
