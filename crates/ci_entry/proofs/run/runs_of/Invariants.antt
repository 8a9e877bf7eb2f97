use Rattle.std.proofs.Common.{◌≡◌, take}
use Rattle.std.specs.List.{filter_map}
use Rattle.ci_entry.specs.Runs.{passage_of, runs}
use Rattle.ci_entry.proofs.run.runs_of.Given as goal

abbrev pub invariant-loop-piece : goal.invariant-loop-piece
invariant-loop-piece l = l.list.items ≡ runs (filter_map (passage_of l.property.0) (take l.piece-index l.pieces))
