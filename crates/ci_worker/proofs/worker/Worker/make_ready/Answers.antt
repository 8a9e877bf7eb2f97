use Rattle.std.proofs.Common.{◌∙◌, ap, sym}
use Rattle.ci_worker.specs.Working.{Working, is_held}
use Rattle.ci_worker.proofs.FilteringLemmas.{filtering-starves}
use Rattle.ci_worker.proofs.StartLemmas.{denied-already, held-already, some_held}
use Rattle.ci_worker.proofs.worker.Worker.make_ready.Goals as goal

pub returns-then-is_some-clause-ok : goal.returns-then-is_some-clause-ok
returns-then-is_some-clause-ok g c =
    held-already c.args.by c.args.catalog.now c.requires.sound c.requires.wanted
    (sym c.requires.holds.held ∙ ap (λ (w : Working). is_held w.held) (sym c.self.view_is) ∙ some_held c.self.inside.held (sym c.if-is_some.ensures))

pub returns-then-self-clause-ok : goal.returns-then-self-clause-ok
returns-then-self-clause-ok g c =
    denied-already c.args.by c.args.catalog.now c.requires.sound c.requires.wanted
    (sym c.requires.holds.lost ∙ ap (λ (w : Working). w.lost) (sym c.self.view_is) ∙ c.if-self.true)

pub returns-in-Err-OutOfMemory-clause-err : goal.returns-in-Err-OutOfMemory-clause-err
returns-in-Err-OutOfMemory-clause-err g c = filtering-starves c.args.by c.args.catalog.now c.requires.sound
