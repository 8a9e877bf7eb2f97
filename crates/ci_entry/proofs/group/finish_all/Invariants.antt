use Rattle.std.proofs.Common.{◌≡◌, ◌++◌, All}
use Rattle.std.specs.Vec.Iter.{into_iter_items}
use Rattle.ci_keys.specs.Places.{IsPlaces}
use Rattle.ci_entry.proofs.group.finish_all.Given as goal

abbrev pub invariant-loop-word : goal.invariant-loop-word
invariant-loop-word l = record {
  made : l.list.items ++ into_iter_items l.word-iterator ≡ l.fn.words.items;
  places : All (λ word. IsPlaces word.1) (into_iter_items l.word-iterator);
}
