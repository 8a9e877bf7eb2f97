use Rattle.std.proofs.Common.{◌≡◌, All, take}
use Rattle.std.specs.List.{filter_map, flat_map}
use Rattle.ci_keys.specs.Key.{IsIndexKey}
use Rattle.ci_entry.specs.Runs.{property_runs}
use Rattle.ci_entry.specs.Words.{kept_word, placed_words}
use Rattle.ci_entry.proofs.word.stands_of.Given as goal

abbrev pub invariant-loop-number : goal.invariant-loop-number
invariant-loop-number l = record {
  made : l.found.items ≡ flat_map (λ property. filter_map (kept_word l.noise property) (placed_words (property_runs property l.pieces))) (take l.number-index l.number-items);
  keys : All (λ stand. IsIndexKey stand.0) l.found.items;
}
