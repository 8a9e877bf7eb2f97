use Rattle.std.proofs.Common.{◌≡◌, ◌++◌, take}
use Rattle.std.specs.BTreeMap.{IsOrdered}
use Rattle.ci_keys.specs.Key.{key_cmp}
use Rattle.ci_keys.specs.declared.key.Key.{Key}
use Rattle.ci_wordlist.specs.Filing.{NoneEmpty, filed, held}
use Rattle.ci_wordlist.proofs.filing.file_words.Given as goal

abbrev pub invariant-loop-key : goal.invariant-loop-key
invariant-loop-key l = record {
  held : (key : Key) → held l.index key ≡ held l.fn.index key ++ filed key (l.doc, take l.key-index l.words);
  some : NoneEmpty l.index;
  order : IsOrdered key_cmp l.index;
}
