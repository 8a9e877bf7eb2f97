use Rattle.std.proofs.Common.{◌∙◌, inr, subst, sym}
use Rattle.ci_play.specs.Played.{Played, PlayedUntil}
use Rattle.ci_play.proofs.steps.play_all.Goals as goal

pub loop-step-preserved : goal.loop-step-preserved
loop-step-preserved g c =
    let steps = sym c.in-Some.ensures.steps.0 in
    record {
      comes = λ new played. c.loop-step.invariant.comes new (subst (λ list. Played c.loop-step.catalog list new) steps (c.play.new.catalog, c.in_ok-play.ensures.ok, played));
      halts = λ new fault until. c.loop-step.invariant.halts new fault (subst (λ list. PlayedUntil c.loop-step.catalog list new fault) steps (inr (c.play.new.catalog, c.in_ok-play.ensures.ok, until)));
      unrefused = c.in_ok-play.ensures.unrefused ∙ c.loop-step.invariant.unrefused;
      fixed = λ fixed has. c.in_ok-play.ensures.fixed fixed (c.loop-step.invariant.fixed fixed has);
    }

pub returns-in_err-play-clause-fixed : goal.returns-in_err-play-clause-fixed
returns-in_err-play-clause-fixed g c fixed has = c.in_err-play.ensures.fixed fixed (c.loop-step.invariant.fixed fixed has)
