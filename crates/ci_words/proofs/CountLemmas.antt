-- A text has no more words than bytes.
use Rattle.std.proofs.Common.{ℕ, ◌+◌, ◌≤◌, true, false, List, [], ◌∷◌, ◌++◌, length, ap, arith, cond, IsUtf8, chars, encode_utf8_all}
use Rattle.std.proofs.lemmas.List.{length-map}
use Rattle.std.proofs.lemmas.Str.{encodes-chars, length-le-encodes}
use Rattle.unicode_segmentation.proofs.SegmentsLemmas.{length-filter-le}
use Rattle.unicode_segmentation.specs.Segments.{Rule, cut, prepend, segments, has_alphanumeric}
use Rattle.unicode_segmentation.specs.Word.{is_word_break}
use Rattle.ci_words.specs.Words.{words}

length-prepend : (part : List ℕ) (pieces : List (List ℕ)) (n : ℕ) → length pieces ≤ n → length (prepend part pieces) ≤ n + 1
length-prepend part [] n short = omega arith
length-prepend part (piece ∷ pieces) n short = omega arith

-- each piece has a character of its own
length-cut : (rule : Rule) (before cs after : List ℕ) → length (cut rule before cs after) ≤ length cs
unfolding cut
length-cut rule before [] after = omega arith
length-cut rule before (c ∷ cs) after =
    let rest = length-cut rule (c ∷ before) cs after in
    elim (rule (c ∷ before) (cs ++ after)) as (λ b. length (cond b ((c ∷ []) ∷ cut rule (c ∷ before) cs after) (prepend (c ∷ []) (cut rule (c ∷ before) cs after))) ≤ length (c ∷ cs)) [
      | true ↦ omega arith
      | false ↦ omega (arith, length-prepend (c ∷ []) (cut rule (c ∷ before) cs after) (length cs) rest)
    ]

length-segments : (rule : Rule) (text : List ℕ) → IsUtf8 text → length (segments rule text) ≤ length text
unfolding segments
length-segments rule text utf8 =
    omega (arith, length-map (cut rule [] (chars text) []) encode_utf8_all, length-cut rule [] (chars text) [], length-le-encodes (chars text), ap length (encodes-chars text utf8))

pub length-words : (text : List ℕ) → IsUtf8 text → length (words text) ≤ length text
length-words text utf8 =
    simp length-map (omega (arith, length-filter-le has_alphanumeric (segments is_word_break text), length-segments is_word_break text utf8))
