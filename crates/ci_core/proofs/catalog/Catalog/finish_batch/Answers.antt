use Rattle.std.proofs.Common.{◌≡◌, ◌∙◌, length, ap, sym, subst, refl}
use Rattle.ci_journal.specs.declared.event.Happened.TheVariants.{BatchDone}
use Rattle.ci_holdings.specs.Batches.{CanFinish}
use Rattle.ci_journal.specs.Tells.{event}
use Rattle.ci_holdings.specs.Core.{Core}
use Rattle.ci_core.proofs.CatalogLemmas.{IsCatalog-step, IsMade, told-as}
use Rattle.ci_core.proofs.catalog.Catalog.finish_batch.Goals as goal

pub invariant_of-self : goal.invariant_of-self
invariant_of-self g c =
    let old : Core = c.self.inside.holdings in
    let place : c.in_ok-at.at ≡ length old.sheet.events = c.in_ok-at.ensures.at ∙ ap (λ (core : Core). length core.sheet.events) (sym c.self.view_is) in
    let may = subst (λ (core : Core). CanFinish core.sheet.events c.args.by c.args.batch.now c.args.outcomes) (sym c.self.view_is) c.requires in
    let step : IsMade old c.finish-made.new.self c.self.inside.refusal (event c.args.by (BatchDone c.args.batch.now.number c.args.outcomes)) c.finish-made.result c.keep.new.refusal = record {
      unrefused = ap (λ (core : Core). core.refusal) c.self.view_is ∙ c.in_ok-at.ensures.unrefused;
      may = (c.args.batch.now, record { is_out = may.is_out; numbered = refl; own = may.own }, may.each);
      ok = c.finish-made.ensures.step.ok;
      err = c.finish-made.ensures.step.refused;
      kept = c.keep.ensures.ok;
      told = told-as c.finish-made.result c.keep.new.refusal c.args.by _ _ _ _ place c.batch_done-tried.ensures c.keep.ensures.err;
    } in
    IsCatalog-step old _ _ _ c.finish-made.result c.keep.new.refusal step c.self.invariant
