use Rattle.std.proofs.lemmas.Result.{err_from_is_err_and}
use Rattle.ci_worker.proofs.KeepsLemmas.{Holds-goes, Keeps-goes}
use Rattle.ci_server.proofs.BesideLemmas.{asked-beside}
use Rattle.ci_server.proofs.TurnLemmas.{asked-less, asked-step, turn-halts, turn-starves, turn-serves, turn-stops, just-asked}
use Rattle.ci_server.proofs.serve_line.serve_request.Goals as goal

pub returns-in_err-copied-clause-err : goal.returns-in_err-copied-clause-err
returns-in_err-copied-clause-err g c =
    let p = err_from_is_err_and c.from_residual.result c.from_residual.ensures.1 in
    rw (p.1, p.2) (turn-starves _ c.args.request.now c.requires.between)

pub returns-in_err-id-clause-err : goal.returns-in_err-id-clause-err
returns-in_err-id-clause-err g c =
    let p = err_from_is_err_and c.from_residual-in_err-id.result c.from_residual-in_err-id.ensures.1 in
    let refused = c.in_err-id.ensures in
    rw (p.1, p.2) (turn-halts _ c.args.request.now c.requires.between _ _ (rw c.in_ok-copied.ensures at refused.step.refused) refused.fixed)

pub serve_steps-requires-clause-asked : goal.serve_steps-requires-clause-asked
serve_steps-requires-clause-asked g c =
    let a = c.in_ok-id.ensures in
    let step = asked-step _ _ c.in_ok-id.id c.in_ok-copied.copied c.requires.between.sound a.id a.step.ok a.step.unrefused a.fixed in
    just-asked _ c.args.request.now c.requires.between _ c.in_ok-id.id c.in_ok-copied.copied a.id c.in_ok-copied.ensures step a.unreplied a.unopened

pub returns-in_err-serve_steps-clause-err : goal.returns-in_err-serve_steps-clause-err
returns-in_err-serve_steps-clause-err g c =
    let p = err_from_is_err_and c.from_residual-in_err-serve_steps.result c.from_residual-in_err-serve_steps.ensures.1 in
    let a = c.in_ok-id.ensures in
    let step = asked-step _ _ c.in_ok-id.id c.in_ok-copied.copied c.requires.between.sound a.id a.step.ok a.step.unrefused a.fixed in
    rw (p.1, p.2) (turn-stops _ c.args.request.now c.requires.between _ c.in_ok-id.id c.in_ok-copied.copied a.id c.in_ok-copied.ensures step _ _ c.in_err-serve_steps.ensures.err)

pub returns-clause-ok : goal.returns-clause-ok
returns-clause-ok g c =
    let a = c.in_ok-id.ensures in
    let step = asked-step _ _ c.in_ok-id.id c.in_ok-copied.copied c.requires.between.sound a.id a.step.ok a.step.unrefused a.fixed in
    let just = just-asked _ c.args.request.now c.requires.between _ c.in_ok-id.id c.in_ok-copied.copied a.id c.in_ok-copied.ensures step a.unreplied a.unopened in
    turn-serves _ c.args.request.now c.requires.between _ c.in_ok-id.id c.in_ok-copied.copied a.id c.in_ok-copied.ensures step _ just c.in_ok-serve_steps.ensures.ok c.in_ok-serve_steps.ensures.back
    (asked-less _ _ _ c.in_ok-copied.copied c.requires.between.sound a.step.ok)

pub serve_steps-requires-clause-holds : goal.serve_steps-requires-clause-holds
serve_steps-requires-clause-holds g c =
    Holds-goes _ _ (asked-beside c.args.catalog.now c.ask.new.self _ c.in_ok-copied.copied c.in_ok-id.ensures.step.ok) c.args.worker.now 0 c.requires.holds

pub returns-in_err-serve_steps-clause-keeps : goal.returns-in_err-serve_steps-clause-keeps
returns-in_err-serve_steps-clause-keeps g c = λ first keeps.
    let beside = asked-beside c.args.catalog.now c.ask.new.self _ c.in_ok-copied.copied c.in_ok-id.ensures.step.ok in
    c.in_err-serve_steps.ensures.keeps first (Keeps-goes _ _ beside first c.args.worker.now keeps)

pub returns-clause-keeps : goal.returns-clause-keeps
returns-clause-keeps g c = λ first keeps.
    let beside = asked-beside c.args.catalog.now c.ask.new.self _ c.in_ok-copied.copied c.in_ok-id.ensures.step.ok in
    c.in_ok-serve_steps.ensures.keeps first (Keeps-goes _ _ beside first c.args.worker.now keeps)
