use Rattle.std.proofs.Common.{◌≤◌, ◌-◌, vec_len}
use Rattle.ci_files.proofs.real_files.read_at_most.Given as goal

abbrev pub invariant-reading : goal.invariant-reading
invariant-reading g l = vec_len l.bytes ≤ l.max

abbrev pub decreases-reading : goal.decreases-reading
decreases-reading g l = l.max - vec_len l.bytes
