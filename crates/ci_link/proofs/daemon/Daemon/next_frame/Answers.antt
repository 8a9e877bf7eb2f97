use Rattle.std.proofs.Common.{ap, Err}
use Rattle.std.proofs.lemmas.Result.{err_from_is_err_and}
use Rattle.ci_wire.proofs.BodyLemmas.{same_err}
use Rattle.ci_link.proofs.LineLemmas.{falters_bad, falters_ended, held_longer}
use Rattle.ci_link.proofs.RunsOutLemmas.{gives_more, gives_same}
use Rattle.ci_link.proofs.daemon.Daemon.next_frame.Goals as goal

pub returns-in-Err-BadFrame-clause-died : goal.returns-in-Err-BadFrame-clause-died
returns-in-Err-BadFrame-clause-died g c = λ _.
    falters_bad _ _ _ c.loop-frame.invariant.0 c.loop-frame.invariant.1 (c.in-Err-BadFrame.ensures.bad (ap (λ e. Err e) c.in-Err-BadFrame.field-0-is))
    c.take_frame.ensures.given c.take_frame.ensures.sent

pub returns-then-branch-eq0-clause-died : goal.returns-then-branch-eq0-clause-died
returns-then-branch-eq0-clause-died g c = λ _.
    falters_ended _ _ _ _ c.loop-frame.invariant.0 _ c.loop-frame.invariant.1 (rw c.in-Ok-None.field-0-is at c.in-Ok-None.ensures.none)
    c.take_frame.ensures.given c.take_frame.ensures.sent c.in_ok-receive.ensures.some c.if-branch-eq0.true (c.in_ok-receive.ensures.ended c.if-branch-eq0.true)

pub loop-frame-smaller : goal.loop-frame-smaller
loop-frame-smaller g c =
    held_longer c.loop-frame.self _ _ _ (rw c.in-Ok-None.field-0-is at c.in-Ok-None.ensures.kept) c.in_ok-receive.ensures.some c.if-branch-eq0.false
    (rw c.in-Ok-None.field-0-is at c.in-Ok-None.ensures.none)

pub returns-in-Err-OutOfMemory-clause-memory : goal.returns-in-Err-OutOfMemory-clause-memory
returns-in-Err-OutOfMemory-clause-memory g c = λ _.
    gives_same _ c.loop-frame.self _ c.loop-frame.invariant.0 c.loop-frame.invariant.1 c.take_frame.ensures.given c.take_frame.ensures.sent c.take_frame.ensures.faults

pub returns-in_err-receive-clause-memory : goal.returns-in_err-receive-clause-memory
returns-in_err-receive-clause-memory g c =
    let p = err_from_is_err_and c.from_residual.result c.from_residual.ensures.1 in
    let before = c.take_frame.ensures in
    rw (p.1, p.2) (λ e. gives_more _ c.loop-frame.self c.take_frame.new.self _ c.loop-frame.invariant.0 c.loop-frame.invariant.1 before.given before.sent before.faults
    (c.in_err-receive.ensures.memory (same_err _ _ e)))
