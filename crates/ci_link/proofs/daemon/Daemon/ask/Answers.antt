use Rattle.std.proofs.Common.{◌∙◌}
use Rattle.ci_wire.proofs.BodyLemmas.{same_err}
use Rattle.ci_link.proofs.LineLemmas.{unanswered_call, unanswered_falters, unanswered_unsent}
use Rattle.ci_link.proofs.RunsOutLemmas.{short_unread, short_unspelled}
use Rattle.ci_link.proofs.daemon.Daemon.ask.Goals as goal

pub returns-in-Err-clause-died : goal.returns-in-Err-clause-died
returns-in-Err-clause-died g c = λ _.
    unanswered_unsent _ _ _ _ (c.items.ensures ∙ c.in_ok-bytes.ensures.spelling) c.in-Err.ensures.err c.in-Err.ensures.given c.in-Err.ensures.cause.failed

pub returns-clause-died : goal.returns-clause-died
returns-clause-died g c = λ e.
    unanswered_falters _ _ _ _ _ (c.items.ensures ∙ c.in_ok-bytes.ensures.spelling) c.in-Ok.ensures.ok c.in-Ok.ensures.given c.in-Ok.ensures.fed c.in-Ok.ensures.cause.kept
    (c.in-Err-next_frame.ensures.died (same_err _ _ e))

pub returns-in-Ok-Call-clause-died : goal.returns-in-Ok-Call-clause-died
returns-in-Ok-Call-clause-died g c = λ _.
    unanswered_call _ _ _ _ c.in-Ok-Call.field-0-0 _ (c.items.ensures ∙ c.in_ok-bytes.ensures.spelling) c.in-Ok.ensures.ok c.in-Ok.ensures.given c.in-Ok.ensures.fed
    (rw c.in-Ok-Call.field-0-is at c.in-Ok-Call.ensures.frame)

pub returns-in_err-bytes-clause-memory : goal.returns-in_err-bytes-clause-memory
returns-in_err-bytes-clause-memory g c = λ _. short_unspelled c.args.self.now c.args.call.now

pub returns-clause-memory : goal.returns-clause-memory
returns-clause-memory g c = λ e.
    short_unread _ _ _ _ _ (c.items.ensures ∙ c.in_ok-bytes.ensures.spelling) c.in-Ok.ensures.ok c.in-Ok.ensures.given c.in-Ok.ensures.cause.kept
    (c.in-Err-next_frame.ensures.memory (same_err _ _ e))
