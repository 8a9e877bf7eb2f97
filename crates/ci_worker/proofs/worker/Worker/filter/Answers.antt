use Rattle.std.proofs.lemmas.Result.{err_from_is_err_and}
use Rattle.ci_worker.proofs.BatchLemmas.{GoesIdle-then}
use Rattle.ci_worker.proofs.FilteringLemmas.{GoesOn-then, filtering-later}
use Rattle.ci_worker.proofs.KeepsLemmas.{Holds-goes, Keeps-goes}
use Rattle.ci_worker.proofs.StartLemmas.{denied-behind}
use Rattle.ci_worker.proofs.worker.Worker.filter.Goals as goal

pub returns-in_err-erase_deletions-clause-keeps : goal.returns-in_err-erase_deletions-clause-keeps
returns-in_err-erase_deletions-clause-keeps g c = λ first keeps.
    Keeps-goes c.args.catalog.now.sheet.events c.erase_deletions.new.catalog.sheet.events c.in_err-erase_deletions.ensures.beside first c.args.self.now keeps

pub loop-alloc-init : goal.loop-alloc-init
loop-alloc-init g c =
    let before = c.args.catalog.now.sheet.events in
    let now = c.erase_deletions.new.catalog.sheet.events in
    let erased = c.in_ok-erase_deletions.ensures in (
      erased.ok,
      Holds-goes before now erased.beside c.args.self.now c.args.by c.requires.holds,
      λ first keeps. Keeps-goes before now erased.beside first c.args.self.now keeps,
    )

pub returns-in_err-make_ready-clause-err : goal.returns-in_err-make_ready-clause-err
returns-in_err-make_ready-clause-err g c =
    let p = err_from_is_err_and c.from_residual-in_err-make_ready.result c.from_residual-in_err-make_ready.ensures.1 in
    let l = c.loop-alloc in
    rw (p.1, p.2) (filtering-later c.args.by c.args.catalog.now l.catalog c.make_ready.new.catalog _ l.invariant.0.goes c.in_err-make_ready.ensures.err)

pub returns-then-not-branch-clause-ok : goal.returns-then-not-branch-clause-ok
returns-then-not-branch-clause-ok g c =
    let l = c.loop-alloc in
    let denied = rw c.if-not-branch.true at c.in_ok-make_ready.ensures.ok in
    denied-behind c.args.by c.args.catalog.now l.catalog c.make_ready.new.catalog l.invariant.0.goes denied

pub loop-alloc-preserved : goal.loop-alloc-preserved
loop-alloc-preserved g c =
    let l = c.loop-alloc in
    let held = rw c.if-not-branch.false at c.in_ok-make_ready.ensures.ok in
    let batch = c.in_ok-filter_batch.ensures in
    let goes = GoesOn-then c.args.by c.args.catalog.now l.catalog c.make_ready.new.catalog l.invariant.0.goes held.goes in (
      GoesIdle-then c.args.by c.args.catalog.now c.make_ready.new.catalog c.filter_batch.new.catalog goes batch.ok,
      batch.holds,
      λ first keeps. batch.keeps first (c.in_ok-make_ready.ensures.keeps first (l.invariant.2 first keeps)),
    )

pub returns-in_err-filter_batch-clause-err : goal.returns-in_err-filter_batch-clause-err
returns-in_err-filter_batch-clause-err g c =
    let p = err_from_is_err_and c.from_residual-in_err-filter_batch.result c.from_residual-in_err-filter_batch.ensures.1 in
    let l = c.loop-alloc in
    let held = rw c.if-not-branch.false at c.in_ok-make_ready.ensures.ok in
    let goes = GoesOn-then c.args.by c.args.catalog.now l.catalog c.make_ready.new.catalog l.invariant.0.goes held.goes in
    rw (p.1, p.2) (filtering-later c.args.by c.args.catalog.now c.make_ready.new.catalog c.filter_batch.new.catalog _ goes c.in_err-filter_batch.ensures.err)
