-- The words of a text.
use Rattle.std.specs.Prelude.{ℕ, ◌<◌, ◌≤◌, List, map, length, chars, encode_utf8_all}
use Rattle.unicode_segmentation.specs.Word.{words as segments}
use Rattle.caseless.specs.Caseless.{default_case_fold}
use Rattle.ci_words.specs.Front.{front_within}

-- a text without a difference of upper and lower case
abbrev pub folded : List ℕ → List ℕ
folded text = encode_utf8_all (default_case_fold (chars text))

-- a segment's word: what is folded of it, cut to whole characters of at most 128 bytes
abbrev pub word_of : List ℕ → List ℕ
word_of segment = front_within 128 (folded segment)

-- the words of a text are those of its segments, in order
abbrev pub words : List ℕ → List (List ℕ)
words text = map word_of (segments text)

-- a word has from 1 to 128 bytes
pub record IsWord (word : List ℕ) : Type 0 where
  pub filled : 0 < length word
  pub short : length word ≤ 128
