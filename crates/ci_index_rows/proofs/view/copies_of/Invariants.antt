use Rattle.std.proofs.Common.{All}
use Rattle.ci_part.specs.Part.{lists_of}
use Rattle.ci_index_rows.specs.Named.{AreNamed}
use Rattle.ci_index_rows.proofs.view.copies_of.Given as goal

abbrev pub invariant-loop-at : goal.invariant-loop-at
invariant-loop-at l = All (λ part. AreNamed (lists_of part)) l.parts.items
