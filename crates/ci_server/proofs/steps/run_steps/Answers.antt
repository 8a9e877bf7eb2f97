use Rattle.std.proofs.Common.{◌∙◌, [], arith, false, ap, refl, sym}
use Rattle.ci_io.specs.Reading.{Reading, ahead}
use Rattle.ci_holdings.specs.Core.{terms_of}
use Rattle.ci_core.specs.Fixed.{Fixed}
use Rattle.ci_server.specs.declared.status.Status.TheVariants.{OutOfMemory}
use Rattle.ci_server.specs.Course.{unheld}
use Rattle.ci_server.proofs.CourseLemmas.{IsBetween-fresh, Ends-unread, IsTold-ends, IsTold-handed, IsTold-idle, course, driven-closed}
use Rattle.ci_server.proofs.SourceLemmas.{ahead-fresh}
use Rattle.ci_server.proofs.steps.run_steps.Goals as goal

pub read_lines-status-requires-clause-between : goal.read_lines-status-requires-clause-between
read_lines-status-requires-clause-between g c = IsBetween-fresh _ c.args.settings.now.noise c.args.settings.now.retries c.in-Ok.ensures.fixed.terms c.in-Ok.ensures.events c.in-Ok.ensures.numbered c.in-Ok.ensures.unrefused

pub returns-in-Err : goal.returns-in-Err
returns-in-Err g c = IsTold-idle _ c.args.settings.now.noise c.args.settings.now.retries refl c.idle.ensures.journal c.idle.ensures.status (ap (λ k. g.K.Sink.written k) (c.idle.ensures.sink ∙ c.in-Err.ensures.err))
    (ap (λ p. g.P.Spawner.records p) c.idle.ensures.spawner) (ap (λ p. g.P.Spawner.faults p) c.idle.ensures.spawner)

pub returns-in-Ok-new : goal.returns-in-Ok-new
returns-in-Ok-new g c =
    let fixed : Fixed = record { limit = c.args.settings.now.journal; most = c.args.settings.now.documents; terms = terms_of c.args.settings.now.noise c.args.settings.now.retries; written = g.K.Sink.written c.args.sink; faults = g.K.Sink.faults c.args.sink } in
    let before = unheld (g.P.Spawner.records c.args.spawner) (g.P.Spawner.faults c.args.spawner) in
    let after = unheld (g.P.Spawner.records c.close.result) (g.P.Spawner.faults c.close.result) in
    let lines = c.read_lines-status in
    let e = c.end.ensures in
    let driven = driven-closed before.records after.records before.faults after.faults c.new-worker.result lines.new.worker c.in-Ok.catalog.sheet.events lines.new.catalog.sheet.events
    c.new-worker.ensures c.in-Ok.ensures.events lines.ensures.keeps c.close.ensures.told c.close.ensures.faults in
    let told = IsTold-ends c.in-Ok-new.reader c.in-Ok.catalog lines.new.reader lines.new.catalog before after fixed lines.result c.in-Ok.ensures.fixed lines.ensures.ends
    (rw e.journal at e.run) (rw e.journal at e.within) driven c.into_source.ensures.held in
    IsTold-handed (course fixed c.in-Ok-new.reader lines.new.reader lines.new.catalog before after lines.result) _ _ _ _ _ _ _ _ _ _
    (sym (ap ahead c.in-Ok-new.ensures.ok ∙ ahead-fresh _)) (ap (λ x. g.S.Source.left x) e.source ∙ c.into_source.ensures.left)
    (sym (ap (λ (r : Reading). r.faults) c.in-Ok-new.ensures.ok)) (ap (λ x. g.S.Source.faults x) e.source ∙ c.into_source.ensures.faults)
    e.written e.faults (ap (λ p. g.P.Spawner.records p) e.spawner) (ap (λ p. g.P.Spawner.faults p) e.spawner) e.status e.journal told

pub returns-in-Err-new : goal.returns-in-Err-new
returns-in-Err-new g c =
    let fixed : Fixed = record { limit = c.args.settings.now.journal; most = c.args.settings.now.documents; terms = terms_of c.args.settings.now.noise c.args.settings.now.retries; written = g.K.Sink.written c.args.sink; faults = g.K.Sink.faults c.args.sink } in
    let first : Reading = record { held = []; left = g.S.Source.left c.args.source; faults = g.S.Source.faults c.args.source; ended = false } in
    let closed = c.close-in-Err-new in
    let before = unheld (g.P.Spawner.records c.args.spawner) (g.P.Spawner.faults c.args.spawner) in
    let after = unheld (g.P.Spawner.records closed.result) (g.P.Spawner.faults closed.result) in
    let made = c.in-Ok.ensures in
    let e = c.end-in-Err-new.ensures in
    let driven = driven-closed before.records after.records before.faults after.faults c.new-worker.result c.new-worker.result c.in-Ok.catalog.sheet.events c.in-Ok.catalog.sheet.events
    c.new-worker.ensures made.events (λ start keeps. keeps) closed.ensures.told closed.ensures.faults in
    let ends = Ends-unread first c.in-Ok.catalog made.events (IsBetween-fresh c.in-Ok.catalog c.args.settings.now.noise c.args.settings.now.retries made.fixed.terms made.events made.numbered made.unrefused) in
    let told = IsTold-ends first c.in-Ok.catalog first c.in-Ok.catalog before after fixed OutOfMemory made.fixed ends
    (rw e.journal at e.run) (rw e.journal at e.within) driven (omega arith) in
    IsTold-handed (course fixed first first c.in-Ok.catalog before after OutOfMemory) _ _ _ _ _ _ _ _ _ _
    (sym (ahead-fresh _)) (ap (λ x. g.S.Source.left x) (e.source ∙ c.in-Err-new.ensures.err))
    refl (ap (λ x. g.S.Source.faults x) (e.source ∙ c.in-Err-new.ensures.err))
    e.written e.faults (ap (λ p. g.P.Spawner.records p) e.spawner) (ap (λ p. g.P.Spawner.faults p) e.spawner) e.status e.journal told
