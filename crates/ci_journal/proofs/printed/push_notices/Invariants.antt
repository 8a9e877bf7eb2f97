use Rattle.std.proofs.Common.{◌≡◌, ◌++◌, drop, flat_map, string_bytes}
use Rattle.ci_journal.specs.Printed.{notice_line}
use Rattle.ci_journal.proofs.printed.push_notices.Given as goal

abbrev pub invariant-loop-notice : goal.invariant-loop-notice
invariant-loop-notice l = string_bytes l.lines ++ flat_map notice_line (drop l.notice-index l.notices) ≡ string_bytes l.initial.lines ++ flat_map notice_line l.notices
