-- The latest notice of a path in a session that found none.
use Rattle.std.specs.Prelude.{ℕ, List, Option, bytes_eq, filter}
use Rattle.ci_change.specs.declared.notice.Notice.{Notice}
use Rattle.ci_journal.specs.declared.event.Event.{Event}
use Rattle.ci_journal.specs.Folds.{new_notices}
use Rattle.ci_journal.specs.Tells.{last_of}

abbrev pub latest_new : List Event → List ℕ → Option Notice
latest_new journal path = last_of (filter (λ n. bytes_eq n.path path) (new_notices journal))
