use Rattle.std.proofs.Common.{◌≡◌, ◌∙◌, length, ap, sym, subst}
use Rattle.ci_journal.specs.declared.event.Happened.TheVariants.{Opened}
use Rattle.ci_journal.specs.Queries.{IsFirstWaiting}
use Rattle.ci_journal.specs.Tells.{event}
use Rattle.ci_holdings.specs.Core.{Core}
use Rattle.ci_holdings.specs.Opening.{NoneWaits}
use Rattle.ci_holdings.specs.Refusals.{Halts}
use Rattle.ci_core.proofs.CatalogLemmas.{IsCatalog-step, IsMade, KeepsFixed-step, OpensFirst-kept, Refuses-step, RefusesOpening-of, halts-first, opening-made, told-as}
use Rattle.ci_holdings.proofs.HaltsLemmas.{Rests-refl}
use Rattle.ci_core.proofs.catalog.Catalog.open_query.Goals as goal

pub returns-in_default-clause-ok : goal.returns-in_default-clause-ok
returns-in_default-clause-ok g c =
    (subst (λ (core : Core). NoneWaits core.terms core.sheet.events) c.self.view_is c.in_default.ensures.none, Rests-refl c.args.self.now)

step : (g : _) (c : goal.After-keep g) → IsMade c.self.inside.holdings c.open_query-made.new.self c.self.inside.refusal (event c.args.by (Opened c.in-Some.id)) c.open_query-made.result c.keep.new.refusal
step g c =
    let old : Core = c.self.inside.holdings in
    let place : c.in_ok-at.at ≡ length old.sheet.events = c.in_ok-at.ensures.at ∙ ap (λ (core : Core). length core.sheet.events) (sym c.self.view_is) in
    let first = c.in-Some.ensures.some in
    record {
      unrefused = ap (λ (core : Core). core.refusal) c.self.view_is ∙ c.in_ok-at.ensures.unrefused;
      may = first;
      ok = opening-made old c.open_query-made.new.self c.args.by c.in-Some.id first.0 c.open_query-made.result first.1 c.open_query-made.ensures.ok;
      err = halts-first (IsFirstWaiting old.terms old.sheet.events) (λ id. Halts old c.open_query-made.new.self (event c.args.by (Opened id))) c.in-Some.id first.0 c.open_query-made.result c.open_query-made.ensures.refused first.1;
      kept = c.keep.ensures.ok;
      told = told-as c.open_query-made.result c.keep.new.refusal c.args.by _ _ _ _ place c.opened-tried.ensures c.keep.ensures.err;
    }

pub invariant_of-self : goal.invariant_of-self
invariant_of-self g c = IsCatalog-step _ _ _ _ c.open_query-made.result c.keep.new.refusal (step g c) c.self.invariant

pub returns-clause-ok : goal.returns-clause-ok
returns-clause-ok g c =
    rw (c.keep.ensures.same, ← c.self.view_is)
    (OpensFirst-kept c.self.inside.holdings c.open_query-made.new.self c.self.inside.refusal c.keep.new.refusal c.args.by c.open_query-made.result c.open_query-made.ensures.ok)

pub returns-clause-refused : goal.returns-clause-refused
returns-clause-refused g c =
    rw (c.keep.ensures.same, ← c.self.view_is) (RefusesOpening-of _ _ c.args.by c.in-Some.id c.open_query-made.result (Refuses-step _ _ _ _ c.open_query-made.result c.keep.new.refusal (step g c)))

pub returns-clause-fixed : goal.returns-clause-fixed
returns-clause-fixed g c = rw (← c.self.view_is) (KeepsFixed-step _ _ _ _ c.open_query-made.result c.keep.new.refusal (step g c))
