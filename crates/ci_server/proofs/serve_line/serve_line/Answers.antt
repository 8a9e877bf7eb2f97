use Rattle.std.proofs.lemmas.Result.{err_from_is_err_and}
use Rattle.ci_journal.specs.Requests.{request_of}
use Rattle.ci_server.proofs.TurnLemmas.{turn-starves}
use Rattle.ci_server.proofs.serve_line.serve_line.Goals as goal

pub returns-in_err-request-clause-err : goal.returns-in_err-request-clause-err
returns-in_err-request-clause-err g c =
    let p = err_from_is_err_and c.from_residual.result c.from_residual.ensures.1 in
    rw (p.1, p.2) (turn-starves _ (request_of c.args.line.now) c.requires.between)
