use Rattle.std.proofs.Common.{◌≡◌, ◌<◌, ◌≤◌, ◌-◌, ◌++◌, All, filter, map, take, length}
use Rattle.ci_change.specs.Pending.{docs_of}
use Rattle.ci_change.specs.Register.{is_spare, notice_at}
use Rattle.ci_change.proofs.register.Register.free_docs.Given as goal

-- what was taken, and then the first free ones of what is left, are the first free ones
abbrev pub invariant-loop-number : goal.invariant-loop-number
invariant-loop-number l = record {
  room : length l.docs ≤ l.most;
  taken : l.docs ++ docs_of (take (l.most - length l.docs) (filter (is_spare l.self.rows) (map (notice_at l.self-inside.rows.entries) l.number-iterator)))
      ≡ docs_of (take l.most (filter (is_spare l.self.rows) l.self.ready));
  places : All (λ e. e.1.place < length l.self-inside.rows.entries) l.number-iterator;
}
