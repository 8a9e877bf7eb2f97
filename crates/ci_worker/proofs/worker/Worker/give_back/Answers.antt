use Rattle.std.proofs.Common.{sym, subst}
use Rattle.ci_worker.specs.Working.{Keeps}
use Rattle.ci_worker.proofs.BatchLemmas.{returned-stops}
use Rattle.ci_worker.proofs.EndsLemmas.{Keeps-returned, Keeps-starved}
use Rattle.ci_worker.proofs.worker.Worker.give_back.Goals as goal

pub returns-clause-stops : goal.returns-clause-stops
returns-clause-stops g c =
    let e = c.return_batch.ensures in
    returned-stops c.args.by _ c.args.batch.now c.requires.out c.requires.sound _ e.fixed e.ends

pub returns-clause-keeps : goal.returns-clause-keeps
returns-clause-keeps g c = λ before ran first keeps.
    let e = c.return_batch.ensures in
    let s = c.stop.ensures in
    subst (Keeps first c.stop.new.self) (sym e.ends.adds.events)
    (Keeps-returned c.args.catalog.now.sheet.events c.args.by c.args.batch.now.number first c.stop.new.self
    (Keeps-starved c.args.catalog.now.sheet.events first before c.args.self.now c.stop.new.self keeps
    (record { records = s.records; tells_on = s.tells_on; faults = s.faults; held = s.held; lost = s.lost }) c.args.batch.now.docs ran))
