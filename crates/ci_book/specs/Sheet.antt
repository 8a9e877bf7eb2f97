-- What contracts see of a journal under its bound, and of the sink that it is printed to.
use Rattle.std.specs.Prelude.{ℕ, List, Option}
use Rattle.ci_journal.specs.declared.event.Event.{Event}

-- the journal's events, how many more fit without memory, the bound on their bytes, and the sink:
-- the bytes
-- written, where it tells them, and its count of faults
pub record Sheet : Type 0 where
  pub events : List Event
  pub spare : ℕ
  pub limit : ℕ
  pub written : Option (List ℕ)
  pub faults : ℕ
