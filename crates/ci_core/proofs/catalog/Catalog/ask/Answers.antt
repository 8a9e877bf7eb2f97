use Rattle.std.proofs.Common.{◌≡◌, ◌∙◌, ◌+◌, length, ap, sym, refl}
use Rattle.ci_journal.specs.declared.event.Happened.TheVariants.{Asked}
use Rattle.ci_journal.specs.Folds.{requests_in}
use Rattle.ci_journal.specs.Tells.{event}
use Rattle.ci_holdings.specs.Core.{Core}
use Rattle.ci_core.proofs.CatalogLemmas.{IsCatalog-step, IsMade, told-as}
use Rattle.ci_core.proofs.catalog.Catalog.ask.Goals as goal

pub invariant_of-self : goal.invariant_of-self
invariant_of-self g c =
    let old : Core = c.self.inside.holdings in
    let place : c.in_ok-at.at ≡ length old.sheet.events = c.in_ok-at.ensures.at ∙ ap (λ (core : Core). length core.sheet.events) (sym c.self.view_is) in
    let step : IsMade old c.ask-made.new.self c.self.inside.refusal (event c.args.by (Asked (length (requests_in old.sheet.events) + 1) c.args.request)) c.ask-made.result c.keep.new.refusal = record {
      unrefused = ap (λ (core : Core). core.refusal) c.self.view_is ∙ c.in_ok-at.ensures.unrefused;
      may = record { foreground = c.requires; next = refl };
      ok = c.ask-made.ensures.step.ok;
      err = c.ask-made.ensures.step.refused;
      kept = c.keep.ensures.ok;
      told = told-as c.ask-made.result c.keep.new.refusal c.args.by _ _ _ _ place (c.asked-tried.ensures ∙ ap (λ id. Asked id c.args.request) c.next_request.ensures) c.keep.ensures.err;
    } in
    IsCatalog-step old _ _ _ c.ask-made.result c.keep.new.refusal step c.self.invariant
