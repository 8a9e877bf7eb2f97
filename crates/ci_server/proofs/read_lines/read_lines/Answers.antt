use Rattle.std.proofs.Common.{inl, ⊎_elim}
use Rattle.ci_server.proofs.ProgressLemmas.{Progress-none, Progress-line, Ends-over, Ends-stop}
use Rattle.ci_server.proofs.read_lines.read_lines.Goals as goal

pub loop-status-init : goal.loop-status-init
loop-status-init g c = (Progress-none _ _ c.requires.empty c.requires.between, c.requires.holds, λ first keeps. keeps)

pub loop-status-preserved : goal.loop-status-preserved
loop-status-preserved g c =
    let serves = rw c.in-Ok-true.field-0-test at c.in-Ok-true.ensures.ok in (
      Progress-line _ _ _ _ _ _ _ c.loop-status.invariant.0 serves,
      c.in-Ok-true.ensures.holds,
      λ first keeps. c.in-Ok-true.ensures.keeps first (c.loop-status.invariant.2 first keeps),
    )

pub returns-in-Ok-false-clause-ends : goal.returns-in-Ok-false-clause-ends
returns-in-Ok-false-clause-ends g c =
    let over = rw c.in-Ok-false.field-0-test at c.in-Ok-false.ensures.ok in
    ⊎_elim (λ served. inl (Progress-line _ _ _ _ _ _ _ c.loop-status.invariant.0 served)) (λ found. Ends-over _ _ _ _ _ _ c.loop-status.invariant.0 found) over

pub returns-in-Err-clause-ends : goal.returns-in-Err-clause-ends
returns-in-Err-clause-ends g c = Ends-stop _ _ _ _ _ _ c.in-Err.status c.loop-status.invariant.0 c.in-Err.ensures.err
