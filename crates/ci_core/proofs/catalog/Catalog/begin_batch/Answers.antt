use Rattle.std.proofs.Common.{◌≡◌, ◌∙◌, length, ap, sym}
use Rattle.ci_holdings.specs.Core.{Core}
use Rattle.ci_core.proofs.BeginningLemmas.{IsCatalog-begun, IsCatalog-unbegun, RefusesBeginning-of}
use Rattle.ci_core.proofs.catalog.Catalog.begin_batch.Goals as goal

pub invariant_of-self : goal.invariant_of-self
invariant_of-self g c =
    let old : Core = c.self.inside.holdings in
    let unrefused = ap (λ (core : Core). core.refusal) c.self.view_is ∙ c.in_ok-at.ensures.unrefused in
    IsCatalog-begun old _ c.self.inside.refusal c.args.by c.args.max unrefused c.in-Ok.batch c.in-Ok.ensures.ok c.self.invariant

pub invariant_of-self-in-Err : goal.invariant_of-self-in-Err
invariant_of-self-in-Err g c =
    let old : Core = c.self.inside.holdings in
    let unrefused = ap (λ (core : Core). core.refusal) c.self.view_is ∙ c.in_ok-at.ensures.unrefused in
    let place : c.in_ok-at.at ≡ length old.sheet.events = c.in_ok-at.ensures.at ∙ ap (λ (core : Core). length core.sheet.events) (sym c.self.view_is) in
    rw (c.keep.ensures.kept, place) (IsCatalog-unbegun old _ c.self.inside.refusal c.args.by c.args.max unrefused c.in-Err.unbegun.fault c.in-Err.unbegun.tried c.in-Err.ensures.refused c.self.invariant)

pub returns-in-Err-clause-refused : goal.returns-in-Err-clause-refused
returns-in-Err-clause-refused g c =
    let old : Core = c.self.inside.holdings in
    let unrefused = ap (λ (core : Core). core.refusal) c.self.view_is ∙ c.in_ok-at.ensures.unrefused in
    let place : c.in_ok-at.at ≡ length old.sheet.events = c.in_ok-at.ensures.at ∙ ap (λ (core : Core). length core.sheet.events) (sym c.self.view_is) in
    rw (← c.self.view_is, c.keep.ensures.fault, c.keep.ensures.kept, place)
    (RefusesBeginning-of old _ c.self.inside.refusal c.args.by c.args.max unrefused c.in-Err.unbegun.fault c.in-Err.unbegun.tried c.in-Err.ensures.refused)
