use Rattle.std.proofs.Common.{false}
use Rattle.ci_server.specs.Progress.{Progress}
use Rattle.ci_worker.specs.Filtering.{room_left}
use Rattle.ci_worker.specs.Working.{Holds, KeepsOn}
use Rattle.ci_server.proofs.read_lines.read_lines.Given as goal

abbrev pub invariant-loop-status : goal.invariant-loop-status
invariant-loop-status g l =
    Progress l.fn.reader l.fn.catalog l.reader l.catalog false × Holds l.worker l.catalog.sheet.events 0
    × KeepsOn l.fn.worker l.fn.catalog.sheet.events l.worker l.catalog.sheet.events

-- each line adds to a journal that is bounded
abbrev pub decreases-loop-status : goal.decreases-loop-status
decreases-loop-status g l = room_left l.catalog
