use Rattle.std.proofs.lemmas.Result.{err_from_is_err_and}
use Rattle.ci_worker.proofs.BatchLemmas.{batch-begun, beginning-stops, begun-keeps}
use Rattle.ci_worker.proofs.batches.begin_batch.Goals as goal

pub returns-in_err-batch-clause-err : goal.returns-in_err-batch-clause-err
returns-in_err-batch-clause-err g c =
    let p = err_from_is_err_and c.from_residual.result c.from_residual.ensures.1 in
    let refused = c.in_err-batch.ensures in
    rw (p.1, p.2) (beginning-stops c.args.by _ c.requires.sound c.requires.wanted c.requires.linked _ refused.fixed _ refused.refused)

pub returns-clause-ok : goal.returns-clause-ok
returns-clause-ok g c =
    let b = c.in_ok-batch.ensures in
    let begins = rw c.in-Some.is at b.ok in
    batch-begun c.args.by _ c.requires.sound c.requires.wanted c.requires.linked _ b.fixed c.in-Some.batch begins.0 begins.1 b.unrefused

pub returns-clause-keeps : goal.returns-clause-keeps
returns-clause-keeps g c =
    let b = c.in_ok-batch.ensures in
    let begins = rw c.in-Some.is at b.ok in
    begun-keeps c.args.by _ c.requires.sound c.requires.wanted c.requires.linked _ b.fixed c.in-Some.batch begins.0 begins.1 b.unrefused
