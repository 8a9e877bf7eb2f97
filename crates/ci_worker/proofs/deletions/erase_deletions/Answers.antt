use Rattle.std.proofs.Common.{drop, ◌+◌, subst}
use Rattle.std.proofs.lemmas.List.{drop_all}
use Rattle.std.proofs.lemmas.Result.{err_from_is_err_and}
use Rattle.ci_worker.proofs.ErasingLemmas.{Erasing, Erasing-all, Erasing-at, Erasing-changed, Erasing-deleted, Erasing-first, erasing-stops}
use Rattle.ci_worker.proofs.FilteringLemmas.{filtering-starves}
use Rattle.ci_worker.proofs.deletions.erase_deletions.Goals as goal
use Rattle.ci_worker.proofs.deletions.erase_deletions.Goals.{in-Deleted+in_ok-erase-in-Deleted, in-Changed}

pub returns-in_err-pending-clause-err : goal.returns-in_err-pending-clause-err
returns-in_err-pending-clause-err g c =
    let p = err_from_is_err_and c.from_residual.result c.from_residual.ensures.1 in
    rw (p.1, p.2) (filtering-starves c.args.by _ c.requires.sound)

pub loop-notice-init : goal.loop-notice-init
loop-notice-init g c =
    rw c.items-notice-items.ensures (Erasing-first c.args.by c.args.catalog.now _ c.requires.sound c.requires.idle c.in_ok-pending.ensures)

pub returns-in_err-erase-in-Deleted-clause-err : goal.returns-in_err-erase-in-Deleted-clause-err
returns-in_err-erase-in-Deleted-clause-err g c =
    let p = err_from_is_err_and c.from_residual-in_err-erase-in-Deleted.result c.from_residual-in_err-erase-in-Deleted.ensures.1 in
    let l = c.loop-notice in
    let n = c.notice-item.result in
    let first = Erasing-at c.args.by c.args.catalog.now l.catalog c.items-notice-items.result.now l.notice-index n c.loop-notice-test.true c.notice-item.is l.invariant in
    let refused = c.in_err-erase-in-Deleted.ensures in
    rw (p.1, p.2) (erasing-stops c.args.by c.args.catalog.now l.catalog n (drop (l.notice-index + 1) c.items-notice-items.result.now) first c.in-Deleted.is l.invariant.goes.at.sound _ refused.fixed _ refused.refused)

pub loop-notice-preserved : goal.loop-notice-preserved
loop-notice-preserved g c =
    let l = c.loop-notice in
    let n = c.notice-item.result in
    let rest = drop (l.notice-index + 1) c.items-notice-items.result.now in
    let first = Erasing-at c.args.by c.args.catalog.now l.catalog c.items-notice-items.result.now l.notice-index n c.loop-notice-test.true c.notice-item.is l.invariant in
    elim c.match-notice.branch [
      | in-Deleted+in_ok-erase-in-Deleted w ↦
          let e = w.in_ok-erase-in-Deleted.ensures in
          rw w.catalog-is (Erasing-deleted c.args.by c.args.catalog.now l.catalog n rest first w.in-Deleted.is l.invariant.goes.at.sound w.erase.new.self e.fixed e.unrefused _ e.ok)
      | in-Changed w ↦ rw w.catalog-is (Erasing-changed c.args.by c.args.catalog.now l.catalog n rest first w.in-Changed.is)
    ]

pub returns-clause-ok : goal.returns-clause-ok
returns-clause-ok g c =
    let l = c.loop-notice in
    Erasing-all c.args.by c.args.catalog.now l.catalog
    (subst (Erasing c.args.by c.args.catalog.now l.catalog) (drop_all l.notice-index c.items-notice-items.result.now c.loop-notice-test.false) l.invariant)
