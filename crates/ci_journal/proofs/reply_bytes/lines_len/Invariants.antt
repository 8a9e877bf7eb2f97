use Rattle.std.proofs.Common.{◌≡◌, take, flat_map, length}
use Rattle.ci_journal.specs.Bytes.{capped}
use Rattle.ci_journal.specs.Printed.{line}
use Rattle.ci_journal.proofs.reply_bytes.lines_len.Given as goal

abbrev pub invariant-loop-path : goal.invariant-loop-path
invariant-loop-path l = l.len ≡ capped (length (flat_map line (take l.path-index l.paths)))
