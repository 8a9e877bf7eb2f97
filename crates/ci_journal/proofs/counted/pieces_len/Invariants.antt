use Rattle.std.proofs.Common.{◌≡◌, take}
use Rattle.ci_journal.specs.Bytes.{capped, transcript_bytes}
use Rattle.ci_journal.proofs.counted.pieces_len.Given as goal

abbrev pub invariant-loop-piece : goal.invariant-loop-piece
invariant-loop-piece l = l.len ≡ capped (transcript_bytes (take l.piece-index l.pieces))
