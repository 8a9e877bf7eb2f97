use Rattle.std.proofs.Common.{◌≡◌, ◌++◌}
use Rattle.ci_change.proofs.rows.copy_rows.Given as goal

-- the rows that were copied, and then those that are left, are all
abbrev pub invariant-loop-path : goal.invariant-loop-path
invariant-loop-path l = l.copied.entries ++ l.path-iterator ≡ l.rows.entries
