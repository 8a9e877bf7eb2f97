use Rattle.std.proofs.Common.{◌≡◌, take}
use Rattle.ci_journal.proofs.journal.Journal.copy.Given as goal

abbrev pub invariant-loop-event : goal.invariant-loop-event
invariant-loop-event l = l.events.items ≡ take l.event-index l.event-items
