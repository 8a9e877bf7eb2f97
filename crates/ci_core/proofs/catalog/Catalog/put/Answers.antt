use Rattle.std.proofs.Common.{◌≡◌, ◌∙◌, length, ap, sym, subst}
use Rattle.ci_change.specs.declared.notice.What.TheVariants.{Changed}
use Rattle.ci_journal.specs.declared.event.Happened.TheVariants.{Put}
use Rattle.ci_journal.specs.Step.{MayPut}
use Rattle.ci_journal.specs.Tells.{event}
use Rattle.ci_holdings.specs.Core.{Core}
use Rattle.ci_core.proofs.CatalogLemmas.{IsCatalog-step, IsMade, told-as}
use Rattle.ci_core.proofs.catalog.Catalog.put.Goals as goal

pub invariant_of-self : goal.invariant_of-self
invariant_of-self g c =
    let old : Core = c.self.inside.holdings in
    let place : c.in_ok-at.at ≡ length old.sheet.events = c.in_ok-at.ensures.at ∙ ap (λ (core : Core). length core.sheet.events) (sym c.self.view_is) in
    let step : IsMade old c.put-made.new.self c.self.inside.refusal (event c.args.by (Put c.args.path.now c.args.seq c.args.transcript)) c.put-made.result c.keep.new.refusal = record {
      unrefused = ap (λ (core : Core). core.refusal) c.self.view_is ∙ c.in_ok-at.ensures.unrefused;
      may = subst (λ (core : Core). MayPut core.terms core.sheet.events c.args.by (record { path = c.args.path.now; seq = c.args.seq; what = Changed })) (sym c.self.view_is) c.requires;
      ok = c.put-made.ensures.step.ok;
      err = c.put-made.ensures.step.refused;
      kept = c.keep.ensures.ok;
      told = told-as c.put-made.result c.keep.new.refusal c.args.by _ _ _ _ place c.put-tried.ensures c.keep.ensures.err;
    } in
    IsCatalog-step old _ _ _ c.put-made.result c.keep.new.refusal step c.self.invariant
