use Rattle.std.proofs.Common.{◌≡◌, ◌+◌, ◌≤◌, ◌++◌, All, length}
use Rattle.std.specs.List.{enumerate_from, filter_map}
use Rattle.std.specs.Vec.Iter.{into_iter_items}
use Rattle.ci_keys.specs.Key.{IsIndexKey}
use Rattle.ci_words.specs.Words.{IsWord, words}
use Rattle.ci_entry.specs.Words.{kept_word}
use Rattle.ci_entry.proofs.word.add_run.Given as goal

abbrev pub invariant-loop-word : goal.invariant-loop-word
invariant-loop-word l = record {
  made : l.found.items ++ filter_map (kept_word l.noise l.property.0) (enumerate_from l.place (into_iter_items l.word-iterator)) ≡
      l.fn.found.items ++ filter_map (kept_word l.noise l.property.0) (enumerate_from l.begin (words l.text));
  count : l.place + length (into_iter_items l.word-iterator) ≡ l.begin + length (words l.text);
  few : length (words l.text) ≤ length l.text;
  each : All IsWord (into_iter_items l.word-iterator);
  keys : All (λ stand. IsIndexKey stand.0) l.found.items;
}
