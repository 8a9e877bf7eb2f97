use Rattle.std.proofs.Common.{◌≡◌, ◌++◌, drop, flat_map, string_bytes}
use Rattle.ci_journal.specs.Printed.{line}
use Rattle.ci_journal.proofs.printed.push_paths.Given as goal

abbrev pub invariant-loop-path : goal.invariant-loop-path
invariant-loop-path l = string_bytes l.lines ++ flat_map line (drop l.path-index l.paths) ≡ string_bytes l.initial.lines ++ flat_map line l.paths
