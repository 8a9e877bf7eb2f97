use Rattle.std.proofs.Common.{◌≡◌, ◌↔◌, true, Contains, take}
use Rattle.ci_journal.specs.Filings.{out}
use Rattle.ci_play.proofs.batch_out.is_out.Given as goal

abbrev pub invariant-loop-event : goal.invariant-loop-event
invariant-loop-event l = (l.is_out ≡ true) ↔ Contains (out (take l.event-index l.events)) l.batch
