use Rattle.std.proofs.Common.{ap, Err, inl}
use Rattle.ci_daemon.proofs.HearingLemmas.{falters_ended, falters_held, falters_lapsed, held_longer}
use Rattle.ci_daemon.proofs.hearing.Hearing.next_frame.Goals as goal

pub returns-in-Err-BadFrame-clause-none : goal.returns-in-Err-BadFrame-clause-none
returns-in-Err-BadFrame-clause-none g c =
    falters_held _ _ _ _ _ c.loop-frame.invariant.fed (inl (c.in-Err-BadFrame.ensures.bad (ap (λ e. Err e) c.in-Err-BadFrame.field-0-is)))

pub returns-in-Ok-eq0-clause-none : goal.returns-in-Ok-eq0-clause-none
returns-in-Ok-eq0-clause-none g c =
    falters_ended _ _ _ _ _ _ _ _ _ c.loop-frame.invariant.fed (rw c.in-Ok-None.field-0-is at c.in-Ok-None.ensures.none)
    (rw c.in-Ok-None.field-0-is at c.in-Ok-None.ensures.kept) c.in-Ok-eq0.ensures.fed c.in-Ok-eq0.field-0-test
    (c.in-Ok-eq0.ensures.over c.in-Ok-eq0.field-0-test) c.end.ensures.quiet c.end.ensures.within c.end.ensures.two

pub loop-frame-smaller : goal.loop-frame-smaller
loop-frame-smaller g c =
    held_longer _ _ _ _ _ _ (rw c.in-Ok-None.field-0-is at c.in-Ok-None.ensures.none) (rw c.in-Ok-None.field-0-is at c.in-Ok-None.ensures.kept)
    c.in-Ok.ensures.fed c.in-Ok.field-0-test.1

pub returns-in-Err-clause-none : goal.returns-in-Err-clause-none
returns-in-Err-clause-none g c =
    falters_lapsed _ _ _ _ _ _ c.loop-frame.invariant.fed (rw c.in-Ok-None.field-0-is at c.in-Ok-None.ensures.none) c.in-Err.ensures.none
