use Rattle.std.proofs.Common.{◌≡◌, ◌<◌, All, filter, map, length}
use Rattle.ci_change.specs.Register.{is_spare, notice_at}
use Rattle.ci_change.proofs.register.Register.first_spare.Given as goal

-- those left that aren't held are all that aren't
abbrev pub invariant-loop-number : goal.invariant-loop-number
invariant-loop-number l = record {
  spare : map (λ n. n.seq.0) (filter (is_spare l.self.rows) (map (notice_at l.self-inside.rows.entries) l.number-iterator)) ≡ map (λ n. n.seq.0) (filter (is_spare l.self.rows) l.self.ready);
  places : All (λ e. e.1.place < length l.self-inside.rows.entries) l.number-iterator;
}
