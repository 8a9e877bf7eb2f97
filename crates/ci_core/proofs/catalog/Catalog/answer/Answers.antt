use Rattle.std.proofs.Common.{◌≡◌, ◌∙◌, length, ap, sym, subst}
use Rattle.ci_journal.specs.declared.event.Happened.TheVariants.{Answered}
use Rattle.ci_journal.specs.Step.{MayAnswer}
use Rattle.ci_journal.specs.Tells.{event}
use Rattle.ci_holdings.specs.Core.{Core}
use Rattle.ci_core.proofs.CatalogLemmas.{IsCatalog-step, IsMade, KeepsFixed-step, told-as}
use Rattle.ci_core.proofs.catalog.Catalog.answer.Goals as goal

step : (g : _) (c : goal.After-keep g) → IsMade c.self.inside.holdings c.answer-made.new.self c.self.inside.refusal (event c.args.by (Answered c.args.id c.args.at c.args.paths)) c.answer-made.result c.keep.new.refusal
step g c =
    let old : Core = c.self.inside.holdings in
    let place : c.in_ok-place.place ≡ length old.sheet.events = c.in_ok-place.ensures.at ∙ ap (λ (core : Core). length core.sheet.events) (sym c.self.view_is) in
    record {
      unrefused = ap (λ (core : Core). core.refusal) c.self.view_is ∙ c.in_ok-place.ensures.unrefused;
      may = subst (λ (core : Core). MayAnswer core.terms core.sheet.events c.args.id c.args.at c.args.paths) (sym c.self.view_is) c.requires;
      ok = c.answer-made.ensures.step.ok;
      err = c.answer-made.ensures.step.refused;
      kept = c.keep.ensures.ok;
      told = told-as c.answer-made.result c.keep.new.refusal c.args.by _ _ _ _ place c.answered-tried.ensures c.keep.ensures.err;
    }

pub invariant_of-self : goal.invariant_of-self
invariant_of-self g c = IsCatalog-step _ _ _ _ c.answer-made.result c.keep.new.refusal (step g c) c.self.invariant

pub returns-clause-fixed : goal.returns-clause-fixed
returns-clause-fixed g c = rw (← c.self.view_is) (KeepsFixed-step _ _ _ _ c.answer-made.result c.keep.new.refusal (step g c))
