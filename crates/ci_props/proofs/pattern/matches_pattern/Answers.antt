use Rattle.std.proofs.Common.{sym}
use Rattle.ci_props.proofs.pattern.matches_pattern.Goals as goal

pub returns-in-Short : goal.returns-in-Short
returns-in-Short c = sym (c.in-Short.ensures 0)
