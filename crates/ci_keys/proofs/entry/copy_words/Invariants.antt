use Rattle.std.proofs.Common.{◌≡◌, take}
use Rattle.ci_keys.proofs.entry.copy_words.Given as goal

abbrev pub invariant-loop-key : goal.invariant-loop-key
invariant-loop-key l = l.copied.items ≡ take l.key-index l.words
