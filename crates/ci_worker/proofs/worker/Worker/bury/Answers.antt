use Rattle.std.proofs.Common.{sym, subst}
use Rattle.ci_worker.specs.Working.{Keeps}
use Rattle.ci_worker.proofs.BatchLemmas.{batch-died, died-holds}
use Rattle.ci_worker.proofs.EndsLemmas.{Keeps-died}
use Rattle.ci_worker.proofs.worker.Worker.bury.Goals as goal

pub returns-clause-back : goal.returns-clause-back
returns-clause-back g c =
    let e = c.batch_died.ensures in
    batch-died c.args.by _ c.args.batch.now c.requires.out c.requires.sound _ e.fixed c.args.charged c.requires.place e.ends c.requires.erased

pub returns-clause-holds : goal.returns-clause-holds
returns-clause-holds g c =
    let e = c.batch_died.ensures in
    died-holds c.args.by _ c.args.batch.now c.requires.out c.requires.sound _ e.fixed c.args.charged c.requires.place e.ends c.args.self.now _ c.stop.ensures.held c.stop.ensures.lost c.requires.holds

pub returns-clause-keeps : goal.returns-clause-keeps
returns-clause-keeps g c = λ before talked first keeps.
    let e = c.batch_died.ensures in
    let s = c.stop.ensures in
    subst (Keeps first c.stop.new.self) (sym e.ends.adds.events)
    (Keeps-died c.args.catalog.now.sheet.events c.args.by c.args.batch.now c.requires.out.alone first before c.args.self.now keeps c.args.charged c.stop.new.self talked
    (record { records = s.records; tells_on = s.tells_on; faults = s.faults; held = s.held; lost = s.lost }))
