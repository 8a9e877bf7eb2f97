use Rattle.std.proofs.Common.{◌≡◌, ◌∙◌, true, false, sym}
use Rattle.ci_play.proofs.OutLemmas.{Contains-left, not-left}
use Rattle.ci_play.proofs.told.is_still_out.Goals as goal

pub returns-then-was_out : goal.returns-then-was_out
returns-then-was_out c filed was = Contains-left filed.out c.args.number c.args.batch.now (was.0 c.if-was_out.true)

pub returns-else-was_out : goal.returns-else-was_out
returns-else-was_out c filed was =
    let no : c.args.was_out ≡ false = c.if-was_out.false in (
      λ e. let out : true ≡ false = sym e ∙ no in absurd (cc),
      λ left. absurd (not-left filed.out c.args.number c.args.batch.now (λ here. let out : true ≡ false = sym (was.1 here) ∙ no in cc) left),
    )
