use Rattle.std.proofs.Common.{◌≡◌, ◌∙◌, length, ap, sym, subst}
use Rattle.ci_base.specs.declared.numbers.Seq.{Seq}
use Rattle.ci_journal.specs.declared.event.Happened.TheVariants.{Erased}
use Rattle.ci_journal.specs.Step.{MayErase}
use Rattle.ci_journal.specs.Tells.{event}
use Rattle.ci_holdings.specs.Core.{Core}
use Rattle.ci_core.proofs.CatalogLemmas.{IsCatalog-step, IsMade, told-as}
use Rattle.ci_holdings.proofs.HaltsLemmas.{Rests-refl}
use Rattle.ci_core.proofs.catalog.Catalog.erase.Goals as goal

pub returns-in_default-clause-ok : goal.returns-in_default-clause-ok
returns-in_default-clause-ok g c =
    (subst (λ (core : Core). (seq : Seq) → ¬ MayErase core.terms core.sheet.events c.args.path.now seq) c.self.view_is c.in_default.ensures.none, Rests-refl c.args.self.now)

pub invariant_of-self-2 : goal.invariant_of-self-2
invariant_of-self-2 g c =
    let old : Core = c.self.inside.holdings in
    let place : c.in_ok-at.at ≡ length old.sheet.events = c.in_ok-at.ensures.at ∙ ap (λ (core : Core). length core.sheet.events) (sym c.self.view_is) in
    let step : IsMade old c.erase-made.new.self c.self.inside.refusal (event c.args.by (Erased c.args.path.now c.in-Some.seq)) c.erase-made.result c.keep.new.refusal = record {
      unrefused = ap (λ (core : Core). core.refusal) c.self.view_is ∙ c.in_ok-at.ensures.unrefused;
      may = c.in-Some.ensures.some;
      ok = c.erase-made.ensures.step.ok;
      err = c.erase-made.ensures.step.refused;
      kept = c.keep.ensures.ok;
      told = told-as c.erase-made.result c.keep.new.refusal c.args.by _ _ _ _ place c.erased-tried.ensures c.keep.ensures.err;
    } in
    IsCatalog-step old _ _ _ c.erase-made.result c.keep.new.refusal step c.self.invariant
