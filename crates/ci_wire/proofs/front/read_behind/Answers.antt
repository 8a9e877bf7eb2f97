use Rattle.ci_wire.proofs.BodyLemmas.{same_err}
use Rattle.ci_wire.proofs.StreamLemmas.{partial_behind, bad_behind, frame_behind}
use Rattle.ci_wire.proofs.front.read_behind.Goals as goal

pub returns-then-behind-size-clause-none : goal.returns-then-behind-size-clause-none
returns-then-behind-size-clause-none c = partial_behind _ c.args.count c.args.size c.requires.in_range c.requires.begins (rw (← c.split_at.ensures.back) c.if-behind-size.true)

pub returns-in-Ok-clause-frame : goal.returns-in-Ok-clause-frame
returns-in-Ok-clause-frame c =
    (c.in-Ok.ensures.ok.0, frame_behind _ _ _ c.in-Ok.frame c.requires.begins c.requires.within (rw (← c.split_at.ensures.back) c.if-behind-size.false) (rw (← c.split_at.ensures.back) c.in-Ok.ensures.ok.1))

pub returns-in-Err-clause-bad : goal.returns-in-Err-clause-bad
returns-in-Err-clause-bad c = λ e. bad_behind _ _ _ c.requires.in_range c.requires.begins (rw (← c.split_at.ensures.back) c.if-behind-size.false) (rw (← c.split_at.ensures.back) (c.in-Err.ensures.bad (same_err _ _ e)))
