use Rattle.std.proofs.Common.{rules, chars, sym, ◌∙◌}
use Rattle.ci_props.specs.Pattern.{matches}
use Rattle.ci_props.proofs.EndLemmas.{drop-any_end, no_end}
use Rattle.ci_props.proofs.SignLemmas.{star-star}
use Rattle.ci_props.proofs.pattern.matches_end.Goals as goal

pub returns-in-Whole : goal.returns-in-Whole
returns-in-Whole c = sym (c.loop-behind.invariant.2 ∙ drop-any_end (matches (chars c.loop-behind.pattern.now)) 0 _ c.in-Whole.ensures)

pub loop-behind-preserved-in-Star : goal.loop-behind-preserved-in-Star
loop-behind-preserved-in-Star c =
    (search rules, search rules, c.loop-behind.invariant.2 ∙ star-star _ _ _ _ c.in-Star.ensures)

pub returns-in-Short : goal.returns-in-Short
returns-in-Short c = sym (c.loop-behind.invariant.2 ∙ no_end (matches (chars c.loop-behind.pattern.now)) _ c.in-Short.ensures)
