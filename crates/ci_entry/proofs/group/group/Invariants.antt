use Rattle.std.proofs.Common.{◌≡◌, ◌++◌}
use Rattle.std.specs.Vec.Iter.{into_iter_items}
use Rattle.ci_entry.specs.Words.{grouped}
use Rattle.ci_entry.proofs.group.group.Given as goal

abbrev pub invariant-loop-key : goal.invariant-loop-key
invariant-loop-key l = record {
  made : l.words.items ≡ grouped l.yielded;
  rest : l.yielded ++ into_iter_items l.key-iterator ≡ l.fn.found.items;
}
