use Rattle.ci_book.specs.declared.core_fault.CoreFault.TheVariants.{OutOfMemory}
use Rattle.ci_worker.proofs.BatchLemmas.{GoesIdle-then, IfErr-map, OnOk-map, place-within, read-each}
use Rattle.ci_worker.proofs.FilteringLemmas.{filtering-later}
use Rattle.ci_worker.proofs.worker.Worker.filter_batch.Goals as goal

pub finish-requires-clause-each : goal.finish-requires-clause-each
finish-requires-clause-each g c =
    let talked = rw c.in-Ok-Finished.field-0-is at c.in-Ok-Finished.ensures.ok in
    read-each c.in_ok-batch.batch.docs talked.talk.talks c.in-Ok-Finished.outcomes talked.talk.read

pub returns-in-Ok-Finished-clause-ok : goal.returns-in-Ok-Finished-clause-ok
returns-in-Ok-Finished-clause-ok g c =
    OnOk-map c.finish.result (GoesIdle-then c.args.by c.args.catalog.now c.begin_batch.new.catalog c.finish.new.catalog c.in_ok-batch.ensures.ok.goes) c.finish.ensures.ok

pub returns-in-Ok-Finished-clause-err : goal.returns-in-Ok-Finished-clause-err
returns-in-Ok-Finished-clause-err g c =
    IfErr-map c.finish.result (λ fault stops. filtering-later c.args.by c.args.catalog.now c.begin_batch.new.catalog c.finish.new.catalog fault c.in_ok-batch.ensures.ok.goes stops) c.finish.ensures.err

pub bury-requires-clause-place : goal.bury-requires-clause-place
bury-requires-clause-place g c =
    let talked = rw c.in-Ok-Died.field-0-is at c.in-Ok-Died.ensures.ok in
    place-within c.in_ok-batch.batch.docs c.in-Ok-Died.charged (talked.talk.path, talked.talk.seq) talked.talk.doc

pub returns-in-Ok-Died-clause-ok : goal.returns-in-Ok-Died-clause-ok
returns-in-Ok-Died-clause-ok g c = GoesIdle-then c.args.by c.args.catalog.now c.begin_batch.new.catalog c.bury.new.catalog c.in_ok-batch.ensures.ok.goes c.bury.ensures.back

pub returns-clause-err : goal.returns-clause-err
returns-clause-err g c =
    filtering-later c.args.by c.args.catalog.now c.begin_batch.new.catalog c.give_back.new.catalog OutOfMemory c.in_ok-batch.ensures.ok.goes c.give_back.ensures.stops
