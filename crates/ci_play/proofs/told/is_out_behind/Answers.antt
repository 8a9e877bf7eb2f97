use Rattle.std.proofs.Common.{◌≡◌, ◌∙◌, true, false, sym}
use Rattle.ci_play.proofs.OutLemmas.{Contains-pushed}
use Rattle.ci_play.proofs.told.is_out_behind.Goals as goal

pub returns-else-was_out : goal.returns-else-was_out
returns-else-was_out c filed was =
    rw c.in-Begun.is (Contains-pushed filed.out c.in-Begun.begun c.args.batch.now c.is_same.result
    (λ here. let out : true ≡ false = sym (was.1 here) ∙ c.if-was_out.false in absurd (cc)) c.is_same.ensures)

pub returns-in-BatchDone : goal.returns-in-BatchDone
returns-in-BatchDone c filed was = rw c.in-BatchDone.is (c.is_still_out.ensures filed was)

pub returns-in-BatchDied : goal.returns-in-BatchDied
returns-in-BatchDied c filed was = rw c.in-BatchDied.is (c.is_still_out-in-BatchDied.ensures filed was)

pub returns-in-Returned : goal.returns-in-Returned
returns-in-Returned c filed was = rw c.in-Returned.is (c.is_still_out-in-Returned.ensures filed was)
