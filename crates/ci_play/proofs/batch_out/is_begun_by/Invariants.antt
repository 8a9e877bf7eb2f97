use Rattle.std.proofs.Common.{Contains, take}
use Rattle.ci_journal.specs.declared.event.Happened.TheVariants.{Begun}
use Rattle.ci_journal.specs.Tells.{event}
use Rattle.ci_play.proofs.batch_out.is_begun_by.Given as goal

abbrev pub invariant-loop-event : goal.invariant-loop-event
invariant-loop-event l = ¬ Contains (take l.event-index l.events) (event l.by (Begun l.batch))
