use Rattle.std.proofs.Common.{ap, sym}
use Rattle.std.proofs.lemmas.Result.{err_from_is_err_and}
use Rattle.ci_worker.specs.Working.{Working}
use Rattle.ci_worker.proofs.KeepsLemmas.{Holds-at, Holds-failing, Keeps-at, Keeps-failing, Keeps-moved}
use Rattle.ci_worker.proofs.StartLemmas.{failed-denied, failed-events, failing-stops}
use Rattle.ci_worker.proofs.worker.Worker.fail.Goals as goal

pub returns-in_err-self-inside-clause-err : goal.returns-in_err-self-inside-clause-err
returns-in_err-self-inside-clause-err g c =
    let p = err_from_is_err_and c.from_residual.result c.from_residual.ensures.1 in
    let refused = c.in_err-self-inside.ensures in
    rw (p.1, p.2) (failing-stops c.args.by _ c.requires.sound c.requires.may _ refused.fixed _ refused.step.refused)

pub returns-clause-ok : goal.returns-clause-ok
returns-clause-ok g c =
    let s = c.in_ok-self-inside.ensures in
    failed-denied c.args.by _ c.requires.sound c.requires.may _ s.fixed s.step.ok s.step.unrefused

pub returns-clause-holds : goal.returns-clause-holds
returns-clause-holds g c =
    let s = c.in_ok-self-inside.ensures in
    let now = c.args.catalog.now in
    Holds-at _ c.args.by _ _ (failed-events c.args.by now c.requires.sound c.requires.may _ s.fixed s.step.ok s.step.unrefused)
    (Holds-failing now.terms now.sheet.events c.args.by c.args.self.now _ c.in_ok-self-inside.field-0
    (ap (λ (w : Working). record w { lost = c.in_ok-self-inside.field-0 }) c.self.view_is) s.lost c.requires.may.unlost c.requires.holds)

pub returns-clause-keeps : goal.returns-clause-keeps
returns-clause-keeps g c = λ first faults rose keeps.
    let s = c.in_ok-self-inside.ensures in
    let now = c.args.catalog.now in
    Keeps-at first _ _ _ (failed-events c.args.by now c.requires.sound c.requires.may _ s.fixed s.step.ok s.step.unrefused)
    (Keeps-moved _ first c.args.self.now _ (ap (λ (w : Working). w.records) (sym c.self.view_is)) (ap (λ (w : Working). w.faults) (sym c.self.view_is)) (ap (λ (w : Working). w.held) (sym c.self.view_is))
    (Keeps-failing now.terms now.sheet.events c.args.by first c.args.self.now faults rose keeps))
