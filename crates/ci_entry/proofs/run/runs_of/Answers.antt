use Rattle.std.proofs.Common.{take}
use Rattle.std.specs.List.{filter_map}
use Rattle.ci_entry.specs.Runs.{passage_of}
use Rattle.ci_entry.proofs.ListLemmas.{filter_map-taken, filter_map-passed}
use Rattle.ci_entry.proofs.run.runs_of.Goals as goal
use Rattle.ci_entry.proofs.run.runs_of.Goals.{in-Some+in_ok-add_passage, in_default}

pub loop-piece-preserved : goal.loop-piece-preserved
loop-piece-preserved c =
    elim c.match-passage.branch [
      | in-Some+in_ok-add_passage w ↦
          rw (w.list-is, filter_map-taken (passage_of c.args.property.0) c.args.pieces.now c.loop-piece.piece-index c.piece-item.result c.loop-piece-test.true c.piece-item.is record { before = w.in-Some.before; text = w.in-Some.text.now } w.in-Some.ensures)
          (w.in_ok-add_passage.ensures (filter_map (passage_of c.args.property.0) (take c.loop-piece.piece-index c.args.pieces.now)) c.loop-piece.invariant)
      | in_default w ↦
          rw (w.list-is, filter_map-passed (passage_of c.args.property.0) c.args.pieces.now c.loop-piece.piece-index c.piece-item.result c.loop-piece-test.true c.piece-item.is w.in_default.ensures)
          c.loop-piece.invariant
    ]
