use Rattle.std.proofs.Common.{◌∙◌, arith}
use Rattle.ci_daemon.proofs.QuestionLemmas.{on_err, refusals_of}
use Rattle.ci_daemon.proofs.RoundLemmas.{leaves_behind, refused_more, replies_taken, replies_unknown}
use Rattle.ci_daemon.proofs.answering.open_document.Goals as goal

pub returns-in_err-answer-clause-err : goal.returns-in_err-answer-clause-err
returns-in_err-answer-clause-err g c =
    on_err c.from_residual.result _
    (leaves_behind _ _ _ c.args.call.now _ c.loop-place.place (refusals_of c.args.call.now c.loop-place.place) c.loop-place.invariant.refused c.in_err-answer.ensures.asked)

pub returns-then-not-is_unknown-clause-ok : goal.returns-then-not-is_unknown-clause-ok
returns-then-not-is_unknown-clause-ok g c =
    rw c.opened-document.ensures (replies_taken _ _ _ _ c.args.call.now c.loop-place.place c.in_ok-answer.answer c.requires (omega arith)
    (λ e. let t = c.is_unknown.ensures.1 e in let f = c.if-not-is_unknown.true in cc) c.loop-place.invariant.refused c.in_ok-answer.ensures.asked c.in_ok-answer.ensures.fits)

pub loop-place-preserved : goal.loop-place-preserved
loop-place-preserved g c = record {
  refused = refused_more _ _ _ c.args.call.now c.loop-place.place c.in_ok-answer.answer (c.is_unknown.ensures.0 c.if-not-is_unknown.false)
      c.loop-place.invariant.refused c.in_ok-answer.ensures.asked;
  count = c.ask_at.auto.filters ∙ c.loop-place.invariant.count;
}

pub returns-clause-ok : goal.returns-clause-ok
returns-clause-ok g c =
    replies_unknown _ c.loop-place.place _ _ c.args.call.now c.said.result c.requires (omega arith) c.loop-place.invariant.refused c.said.ensures
