use Rattle.std.proofs.Common.{◌≡◌, ◌+◌, ◌≤◌, drop, length, take}
use Rattle.ci_dialect.specs.Words.{words_of}
use Rattle.ci_dialect.specs.Step.{too_long}
use Rattle.ci_query.proofs.items.words_of.Given as goal

abbrev pub invariant-loop-item : goal.invariant-loop-item
invariant-loop-item l = record {
  made : l.words.items ≡ words_of (take l.item-index l.items);
  few : too_long l.read l.items ≡ too_long (l.read + length l.words.items) (drop l.item-index l.items);
  bound : l.read + length l.words.items ≤ 1024;
}
