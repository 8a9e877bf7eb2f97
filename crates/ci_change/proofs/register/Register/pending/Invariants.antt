use Rattle.std.proofs.Common.{◌≡◌, ◌<◌, ◌++◌, All, filter, map, length}
use Rattle.ci_change.specs.Register.{notice_at, waits}
use Rattle.ci_change.proofs.register.Register.pending.Given as goal

-- what is listed, and then what waits of those left, are all that wait
abbrev pub invariant-loop-number : goal.invariant-loop-number
invariant-loop-number l = record {
  listed : l.list.items ++ map (λ n. n) (filter (waits l.self.rows l.retries) (map (notice_at l.self-inside.rows.entries) l.number-iterator))
      ≡ filter (waits l.self.rows l.retries) l.self.unserved;
  places : All (λ e. e.1.place < length l.self-inside.rows.entries) l.number-iterator;
}
