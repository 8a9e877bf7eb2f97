use Rattle.std.proofs.Common.{rules, arith, sym, ◌∙◌}
use Rattle.ci_props.proofs.SignLemmas.{Compares-short, Compares-step, matches-apart_here, matches-ended}
use Rattle.ci_props.proofs.pattern.stop_of.Goals as goal

pub returns-else-is_empty : goal.returns-else-is_empty
returns-else-is_empty c =
    let more = sym c.is_empty.ensures ∙ c.if-is_empty.false in
    c.loop-sign.invariant.2.same
    ∙ matches-ended _ c.loop-sign.text.now c.loop-sign.invariant.1 c.in_default.ensures.split more

pub returns-in_default-first : goal.returns-in_default-first
returns-in_default-first c =
    Compares-short _ _ _ _ _ _ c.loop-sign.invariant.2 c.in-Some.ensures.split c.in_default-first.ensures.split c.if-sign-eq42.false

pub returns-then-not-stands_for : goal.returns-then-not-stands_for
returns-then-not-stands_for c =
    let apart = sym c.stands_for.ensures ∙ c.if-not-stands_for.true in
    c.loop-sign.invariant.2.same
    ∙ matches-apart_here _ _ _ _ _ _ c.in-Some.ensures.split c.in-Some-first.ensures.split c.if-sign-eq42.false apart

pub loop-sign-preserved : goal.loop-sign-preserved
loop-sign-preserved c =
    let stands = sym c.stands_for.ensures ∙ c.if-not-stands_for.false in
    let next = Compares-step _ _ _ _ _ _ _ _ c.loop-sign.invariant.2 c.in-Some.ensures.split c.in-Some-first.ensures.split c.if-sign-eq42.false stands in (
      search rules,
      search rules,
      next,
      omega (arith, c.in-Some.ensures.shorter),
      omega (arith, c.in-Some-first.ensures.shorter),
    )
