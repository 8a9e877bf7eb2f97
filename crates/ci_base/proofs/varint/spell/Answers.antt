use Rattle.std.proofs.Common.{rules, arith, refl}
use Rattle.ci_base.specs.Varint.{varint}
use Rattle.ci_base.proofs.VarintLemmas.{spell_last, spell_more, spell_ninth, within_more}
use Rattle.ci_base.proofs.varint.spell.Goals as goal

pub loop-place-init : goal.loop-place-init
unfolding varint
loop-place-init c = (c.requires, refl, omega arith)

pub returns-then-rest-lt128-clause-spelled : goal.returns-then-rest-lt128-clause-spelled
returns-then-rest-lt128-clause-spelled c =
    spell_last _ _ _ _ _ (omega arith) c.if-rest-lt128.true c.loop-place.invariant.1

pub loop-place-preserved : goal.loop-place-preserved
loop-place-preserved c = (
  search rules,
  spell_more _ _ _ _ (omega arith) (omega arith) c.if-rest-lt128.false c.loop-place.invariant.1,
  within_more _ _ _ c.loop-place.invariant.2,
)

pub returns-clause-spelled : goal.returns-clause-spelled
returns-clause-spelled c =
    spell_ninth _ _ _ _ (omega arith) c.loop-place.invariant.0 c.loop-place.invariant.1
