use Rattle.std.proofs.Common.{◌≡◌, ◌+◌, ◌*◌, ◌≤◌, ◌++◌, All, length, take}
use Rattle.std.specs.List.{filter_map, sum_by}
use Rattle.ci_keys.specs.Key.{IsIndexKey}
use Rattle.ci_entry.specs.Runs.{Passage}
use Rattle.ci_entry.specs.Words.{kept_word, placed_words}
use Rattle.ci_entry.proofs.PlaceLemmas.{ends}
use Rattle.ci_entry.proofs.word.add_runs.Given as goal

abbrev pub invariant-loop-index : goal.invariant-loop-index
invariant-loop-index l = record {
  made : l.found.items ≡ l.fn.found.items ++ filter_map (kept_word l.noise l.property.0) (placed_words (take l.index l.runs));
  end : l.end ≡ ends (take l.index l.runs);
  bound : l.end ≤ sum_by (λ (run : Passage). length run.text) (take l.index l.runs) + 1024 * l.index;
  keys : All (λ stand. IsIndexKey stand.0) l.found.items;
}
