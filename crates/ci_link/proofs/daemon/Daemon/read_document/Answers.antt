use Rattle.std.proofs.Common.{[]}
use Rattle.std.proofs.lemmas.Result.{err_from_is_err_and}
use Rattle.ci_wire.proofs.BodyLemmas.{same_err}
use Rattle.ci_link.proofs.LineLemmas.{exchanges_none}
use Rattle.ci_link.specs.Document.{asked}
use Rattle.ci_link.proofs.TalkLemmas.{dies_within, goes_on, illegal_within, reads_done}
use Rattle.ci_link.proofs.RunsOutLemmas.{out_behind, out_hearing, out_within, short_unspelled}
use Rattle.ci_link.proofs.daemon.Daemon.read_document.Goals as goal

pub loop-document-init : goal.loop-document-init
loop-document-init g c = ([], c.new-document.ensures c.args.path.now, exchanges_none c.args.self.now)

pub returns-in_err-answer-clause-died : goal.returns-in_err-answer-clause-died
returns-in_err-answer-clause-died g c =
    let p = err_from_is_err_and c.from_residual-in_err-answer.result c.from_residual-in_err-answer.ensures.1 in
    rw (p.1, p.2) (λ e. dies_within _ _ _ _ c.loop-document.document c.loop-document.invariant.0 _ c.loop-document.invariant.1 c.in_ok-call.ensures
    c.loop-document.invariant.2 (c.in_err-answer.ensures.died (same_err _ _ e)))

pub returns-in-Ends-clause-read : goal.returns-in-Ends-clause-read
returns-in-Ends-clause-read g c =
    reads_done _ _ _ _ c.loop-document.document c.loop-document.invariant.0 _ _ _ c.loop-document.invariant.1 c.in_ok-call.ensures c.loop-document.invariant.2
    c.in_ok-answer.ensures.answered
    (rw c.in-Ends.is at (c.in_ok-next.ensures.next c.args.path.now c.loop-document.invariant.0 c.loop-document.invariant.1))

pub returns-in-Illegal-clause-died : goal.returns-in-Illegal-clause-died
returns-in-Illegal-clause-died g c = λ _.
    illegal_within _ _ _ _ c.loop-document.document c.loop-document.invariant.0 _ _ c.loop-document.invariant.1 c.in_ok-call.ensures c.loop-document.invariant.2
    c.in_ok-answer.ensures.answered
    (rw c.in-Illegal.is at (c.in_ok-next.ensures.next c.args.path.now c.loop-document.invariant.0 c.loop-document.invariant.1))

pub loop-document-preserved-in-Ask : goal.loop-document-preserved-in-Ask
loop-document-preserved-in-Ask g c =
    goes_on _ _ _ _ c.loop-document.document c.in-Ask.next c.loop-document.invariant.0 _ _ c.in_ok-call.ensures c.loop-document.invariant.2
    c.in_ok-answer.ensures.answered
    (rw c.in-Ask.is at (c.in_ok-next.ensures.next c.args.path.now c.loop-document.invariant.0 c.loop-document.invariant.1))

pub loop-document-preserved : goal.loop-document-preserved
loop-document-preserved g c =
    goes_on _ _ _ _ c.loop-document.document c.in-Ask.next c.loop-document.invariant.0 _ _ c.in_ok-call.ensures c.loop-document.invariant.2
    c.in_ok-answer.ensures.answered
    (rw c.in-Ask.is at (c.in_ok-next.ensures.next c.args.path.now c.loop-document.invariant.0 c.loop-document.invariant.1))

pub returns-in_err-call-clause-memory : goal.returns-in_err-call-clause-memory
returns-in_err-call-clause-memory g c = λ _. record {
  talk = c.loop-document.invariant.0;
  call = asked c.args.path.now c.loop-document.document.stage;
  begun = c.loop-document.invariant.1.begun;
  ran_out = out_behind _ _ _ _ _ c.loop-document.invariant.2 (short_unspelled c.loop-document.self _);
}

pub returns-in_err-answer-clause-memory : goal.returns-in_err-answer-clause-memory
returns-in_err-answer-clause-memory g c =
    let p = err_from_is_err_and c.from_residual-in_err-answer.result c.from_residual-in_err-answer.ensures.1 in
    rw (p.1, p.2) (λ e. out_within _ _ _ _ c.loop-document.document c.loop-document.invariant.0 _ c.loop-document.invariant.1 c.in_ok-call.ensures
    c.loop-document.invariant.2 (c.in_err-answer.ensures.memory (same_err _ _ e)))

pub returns-in_err-next-clause-memory : goal.returns-in_err-next-clause-memory
returns-in_err-next-clause-memory g c = λ _.
    out_hearing _ _ _ _ c.loop-document.document c.loop-document.invariant.0 _ _ c.loop-document.invariant.1 c.in_ok-call.ensures
    c.loop-document.invariant.2 c.in_ok-answer.ensures.answered
