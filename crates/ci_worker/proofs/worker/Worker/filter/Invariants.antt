use Rattle.ci_worker.specs.Filtering.{GoesIdle, room_left}
use Rattle.ci_worker.specs.Working.{Holds, KeepsOn}
use Rattle.ci_worker.proofs.worker.Worker.filter.Given as goal

abbrev pub invariant-loop-alloc : goal.invariant-loop-alloc
invariant-loop-alloc g l =
    GoesIdle l.fn.by l.fn.catalog l.catalog × Holds l.self l.catalog.sheet.events l.fn.by
    × KeepsOn l.fn.self l.fn.catalog.sheet.events l.self l.catalog.sheet.events

-- each batch takes room
abbrev pub decreases-loop-alloc : goal.decreases-loop-alloc
decreases-loop-alloc g l = room_left l.catalog
