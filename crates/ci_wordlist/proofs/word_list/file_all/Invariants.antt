use Rattle.std.proofs.Common.{◌≡◌, All, map, take}
use Rattle.std.specs.BTreeMap.{IsOrdered}
use Rattle.std.specs.List.{zip}
use Rattle.ci_keys.specs.Entry.{IsWords}
use Rattle.ci_keys.specs.Key.{key_cmp}
use Rattle.ci_keys.specs.declared.key.Key.{Key}
use Rattle.ci_wordlist.specs.Filing.{NoneEmpty, held, postings_of}
use Rattle.ci_wordlist.proofs.word_list.file_all.Given as goal

abbrev pub invariant-loop-at : goal.invariant-loop-at
invariant-loop-at l = record {
  held : (key : Key) → held l.index key ≡ postings_of key (take l.at (zip l.docs (map (λ entry. entry.words) l.entries)));
  some : NoneEmpty l.index;
  order : IsOrdered key_cmp l.index;
  words : All (λ entry. IsWords entry.words) (take l.at l.entries);
}
