use Rattle.std.proofs.Common.{◌≡◌, ◌++◌, map, take}
use Rattle.ci_part.specs.Covering.{live}
use Rattle.ci_part.specs.Part.{lists_of}
use Rattle.ci_part.proofs.live.add_live.Given as goal

abbrev pub invariant-loop-row : goal.invariant-loop-row
invariant-loop-row l = l.all.items ≡ l.fn.all.items ++ live (map lists_of l.newer) (take l.row-index l.rows)
