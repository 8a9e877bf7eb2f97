use Rattle.std.proofs.Common.{◌≡◌, take}
use Rattle.ci_journal.specs.Bytes.{capped, texts_bytes}
use Rattle.ci_journal.proofs.counted.paths_len.Given as goal

abbrev pub invariant-loop-path : goal.invariant-loop-path
invariant-loop-path l = l.len ≡ capped (texts_bytes (take l.path-index l.paths))
