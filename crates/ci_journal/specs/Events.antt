-- What contracts see of a journal.
use Rattle.std.specs.Prelude.{ℕ, List}
use Rattle.ci_journal.specs.declared.event.Event.{Event}

-- its events, and how many more it can take without memory
pub record Events : Type 0 where
  pub list : List Event
  pub spare : ℕ
