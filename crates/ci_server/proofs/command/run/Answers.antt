use Rattle.std.proofs.Common.{ap, refl}
use Rattle.ci_words.specs.Noise.{standard_noise}
use Rattle.ci_server.proofs.CourseLemmas.{IsTold-idle}
use Rattle.ci_server.proofs.command.run.Goals as goal

pub returns-in-Ok-clause-told : goal.returns-in-Ok-clause-told
returns-in-Ok-clause-told g c usage =
    let s = c.in-Ok.ensures in
    rw (← s.journal, ← s.documents, ← s.noise, ← s.retries) c.run_steps.ensures

pub returns-in-Err-clause-told : goal.returns-in-Err-clause-told
returns-in-Err-clause-told g c usage = IsTold-idle _ standard_noise 4 refl c.idle-in-Err.ensures.journal c.idle-in-Err.ensures.status (ap (λ k. g.K.Sink.written k) c.idle-in-Err.ensures.sink)
    (ap (λ p. g.P.Spawner.records p) c.idle-in-Err.ensures.spawner) (ap (λ p. g.P.Spawner.faults p) c.idle-in-Err.ensures.spawner)
