use Rattle.std.proofs.Common.{All}
use Rattle.ci_part.specs.Part.{lists_of}
use Rattle.ci_index_rows.specs.Named.{AreNamed}
use Rattle.ci_index_rows.proofs.parts.parts_of.Given as goal

abbrev pub invariant-loop-told : goal.invariant-loop-told
invariant-loop-told l = All (λ part. AreNamed (lists_of part)) l.parts.items
