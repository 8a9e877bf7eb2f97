use Rattle.std.proofs.Common.{sym, subst, refl}
use Rattle.ci_journal.specs.declared.event.Happened.TheVariants.{BatchDone}
use Rattle.ci_journal.specs.Tells.{event}
use Rattle.ci_worker.specs.Working.{Keeps}
use Rattle.ci_worker.proofs.BatchLemmas.{batch-done, done-events, done-holds, finishing-stops}
use Rattle.ci_worker.proofs.EndsLemmas.{Keeps-done, Keeps-untold}
use Rattle.ci_worker.proofs.StopLemmas.{refused-same}
use Rattle.ci_worker.proofs.worker.Worker.finish.Goals as goal

pub returns-in-Ok-clause-ok : goal.returns-in-Ok-clause-ok
returns-in-Ok-clause-ok g c =
    let e = c.in-Ok.ensures in
    batch-done c.args.by _ c.args.batch.now c.requires.out c.requires.sound _ e.fixed c.args.outcomes c.requires.each e.step.ok e.step.unrefused c.requires.erased

pub returns-in-Ok-clause-holds : goal.returns-in-Ok-clause-holds
returns-in-Ok-clause-holds g c =
    let e = c.in-Ok.ensures in
    done-holds c.args.by _ c.args.batch.now c.requires.out c.requires.sound _ e.fixed c.args.outcomes c.requires.each e.step.ok e.step.unrefused c.args.self.now c.requires.holds

pub returns-in-Ok-clause-keeps : goal.returns-in-Ok-clause-keeps
returns-in-Ok-clause-keeps g c = λ before talked first keeps.
    let e = c.in-Ok.ensures in
    subst (Keeps first c.args.self.now)
    (sym (done-events c.args.by _ c.args.batch.now c.requires.out c.requires.sound _ e.fixed c.args.outcomes c.requires.each e.step.ok e.step.unrefused))
    (Keeps-done c.args.catalog.now.sheet.events c.args.by c.args.batch.now c.requires.out.alone first before c.args.self.now keeps c.args.outcomes talked)

pub returns-in-Err-clause-err : goal.returns-in-Err-clause-err
returns-in-Err-clause-err g c =
    let e = c.in-Err.ensures in
    finishing-stops c.args.by _ c.args.batch.now c.requires.out c.requires.sound _ e.fixed c.args.outcomes c.requires.each c.in-Err.fault e.step.refused

pub returns-in-Err-clause-keeps : goal.returns-in-Err-clause-keeps
returns-in-Err-clause-keeps g c = λ before talked first keeps.
    let e = c.in-Err.ensures in
    let s = c.stop.ensures in
    subst (Keeps first c.stop.new.self)
    (sym (refused-same c.args.catalog.now _ (event c.args.by (BatchDone c.args.batch.now.number c.args.outcomes)) c.in-Err.fault c.requires.sound refl e.step.refused))
    (Keeps-untold c.args.catalog.now.sheet.events first before c.args.self.now c.stop.new.self keeps
    (record { records = s.records; tells_on = s.tells_on; faults = s.faults; held = s.held; lost = s.lost }) c.args.batch.now.docs c.args.outcomes talked)
