use Rattle.std.proofs.lemmas.Result.{err_from_is_err_and}
use Rattle.ci_daemon.proofs.ServingLemmas.{served_unanswered, served_unheard, served_unsaid, serves_one}
use Rattle.ci_daemon.proofs.serve.serve_call.Goals as goal

pub returns-in_err-call-clause-err : goal.returns-in_err-call-clause-err
returns-in_err-call-clause-err g c =
    let p = err_from_is_err_and c.from_residual.result c.from_residual.ensures.1 in
    rw (p.1, p.2) (served_unheard _ _ _ _ _ _ _ _ c.in_err-call.ensures.none)

pub returns-in_err-reply-clause-err : goal.returns-in_err-reply-clause-err
returns-in_err-reply-clause-err g c =
    let p = err_from_is_err_and c.from_residual-in_err-reply.result c.from_residual-in_err-reply.ensures.1 in
    rw (p.1, p.2) (served_unanswered _ _ _ _ _ _ _ _ _ _ c.in_ok-call.ensures.call c.in_err-reply.ensures.err)

pub returns-in_err-say-clause-err : goal.returns-in_err-say-clause-err
returns-in_err-say-clause-err g c =
    let p = err_from_is_err_and c.from_residual-in_err-say.result c.from_residual-in_err-say.ensures.1 in
    rw (p.1, p.2) (served_unsaid _ _ _ _ _ _ _ _ _ _ _ _ _ c.in_ok-call.ensures.call c.in_ok-reply.ensures.ok c.in_err-say.ensures.err)

pub returns-clause-ok : goal.returns-clause-ok
returns-clause-ok g c = serves_one _ _ _ _ _ _ _ _ _ _ _ _ c.in_ok-call.ensures.call c.in_ok-reply.ensures.ok c.in_ok-say.ensures.ok
