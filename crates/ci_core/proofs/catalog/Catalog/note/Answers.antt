use Rattle.std.proofs.Common.{◌≡◌, ◌∙◌, length, ap, sym, refl}
use Rattle.ci_journal.specs.declared.event.Happened.TheVariants.{Noted}
use Rattle.ci_journal.specs.Folds.{next_notice}
use Rattle.ci_book.specs.Changes.{noted}
use Rattle.ci_holdings.specs.Core.{Core}
use Rattle.ci_core.proofs.CatalogLemmas.{IsCatalog-step, IsMade, told-as}
use Rattle.ci_core.proofs.catalog.Catalog.note.Goals as goal

pub invariant_of-self : goal.invariant_of-self
invariant_of-self g c =
    let old : Core = c.self.inside.holdings in
    let place : c.in_ok-at.at ≡ length old.sheet.events = c.in_ok-at.ensures.at ∙ ap (λ (core : Core). length core.sheet.events) (sym c.self.view_is) in
    let step : IsMade old c.note-made.new.self c.self.inside.refusal (noted c.args.by c.args.path.now (next_notice old.terms old.sheet.events) c.args.what) c.note-made.result c.keep.new.refusal = record {
      unrefused = ap (λ (core : Core). core.refusal) c.self.view_is ∙ c.in_ok-at.ensures.unrefused;
      may = record { foreground = c.requires; scope = refl; next = refl };
      ok = c.note-made.ensures.step.ok;
      err = c.note-made.ensures.step.refused;
      kept = c.keep.ensures.ok;
      told = told-as c.note-made.result c.keep.new.refusal c.args.by _ _ _ _ place (c.noted-tried.ensures ∙ ap (λ seq. Noted (record { path = c.args.path.now; seq = seq; what = c.args.what })) c.next_notice.ensures) c.keep.ensures.err;
    } in
    IsCatalog-step old _ _ _ c.note-made.result c.keep.new.refusal step c.self.invariant
