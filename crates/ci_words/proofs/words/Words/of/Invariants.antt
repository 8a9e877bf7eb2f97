use Rattle.std.proofs.Common.{◌≡◌, ◌++◌, map, All}
use Rattle.unicode_segmentation.specs.Iter.{unicode_words_left}
use Rattle.ci_words.specs.Words.{IsWord, word_of, words}
use Rattle.ci_words.proofs.words.Words.of.Given as goal

abbrev pub invariant-loop-segment : goal.invariant-loop-segment
invariant-loop-segment l = record {
  made : l.list.items ++ map word_of (unicode_words_left l.segment-iterator) ≡ words l.text;
  each : All IsWord l.list.items;
}
