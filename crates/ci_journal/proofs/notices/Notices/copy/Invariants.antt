use Rattle.std.proofs.Common.{◌≡◌, take}
use Rattle.ci_journal.proofs.notices.Notices.copy.Given as goal

abbrev pub invariant-loop-notice : goal.invariant-loop-notice
invariant-loop-notice l = l.copied ≡ take l.notice-index l.notice-items
