use Rattle.std.proofs.Common.{◌≡◌, ◌<◌, ◌++◌, All, filter, map, length}
use Rattle.ci_change.specs.Pending.{paths_of}
use Rattle.ci_change.specs.Register.{is_given_up, notice_at}
use Rattle.ci_change.proofs.register.Register.given_up.Given as goal

-- what is listed, and then the paths of those left that are set aside, are all of them
abbrev pub invariant-loop-entry : goal.invariant-loop-entry
invariant-loop-entry l = record {
  listed : l.list.items ++ paths_of (filter (is_given_up l.self.rows l.retries) (map (notice_at l.self-inside.rows.entries) l.entry-iterator))
      ≡ paths_of (filter (is_given_up l.self.rows l.retries) l.self.unserved);
  places : All (λ e. e.1.place < length l.self-inside.rows.entries) l.entry-iterator;
}
