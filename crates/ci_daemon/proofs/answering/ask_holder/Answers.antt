use Rattle.std.proofs.Common.{[]}
use Rattle.ci_daemon.proofs.QuestionLemmas.{asked_none, on_err}
use Rattle.ci_daemon.proofs.RoundLemmas.{leaves_behind, replies_holder}
use Rattle.ci_daemon.proofs.answering.ask_holder.Goals as goal

pub returns-in_err-answer-clause-err : goal.returns-in_err-answer-clause-err
returns-in_err-answer-clause-err g c =
    on_err c.from_residual.result _ (leaves_behind _ _ _ c.args.call.now [] c.args.holding.filter tt (asked_none _) c.in_err-answer.ensures.asked)

pub returns-clause-ok : goal.returns-clause-ok
returns-clause-ok g c =
    rw c.given_by-given.ensures (replies_holder _ _ _ c.args.holding c.args.call.now c.in_ok-answer.answer c.requires.other c.requires.within c.requires.has
    c.in_ok-answer.ensures.asked c.in_ok-answer.ensures.fits)
