use Rattle.std.proofs.Common.{◌≡◌, take, flat_map, length}
use Rattle.ci_journal.specs.Bytes.{capped}
use Rattle.ci_journal.specs.Printed.{notice_line}
use Rattle.ci_journal.proofs.reply_bytes.notices_len.Given as goal

abbrev pub invariant-loop-notice : goal.invariant-loop-notice
invariant-loop-notice l = l.len ≡ capped (length (flat_map notice_line (take l.notice-index l.notices)))
