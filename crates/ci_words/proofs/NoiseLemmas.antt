-- What is read of lists of noise words.
use Rattle.std.proofs.Common.{◌≡◌, ◌↔◌, ℕ, ◌+◌, ◌<◌, ◌≤◌, List, [], ◌∷◌, ◌++◌, length, get_or, All, Contains, IsSorted, IsTrue, Result, Ok, Err, is_ok, inl, inr, refl, sym, ap, ◌∙◌, arith, append_assoc, append-nil, length-append}
use Rattle.std.specs.declared.cmp.Ordering.TheVariants.{Equal}
use Rattle.std.specs.Cmp.Lexicographic.{slice_cmp, nat_list_cmp_total}
use Rattle.std.specs.FinMap.{nat_cmp-IsAntisymmetric, slice_cmp-IsAntisymmetric}
use Rattle.std.specs.List.{flat_map}
use Rattle.std.specs.List.Sorted.{IsBinarySearchResult, IsSearchInRange}
use Rattle.std.specs.Ordering.{nat_cmp}
use Rattle.std.specs.Str.Lines.{lines}
use Rattle.std.proofs.lemmas.Bool.{cases_lt}
use Rattle.std.proofs.lemmas.Cmp.{tied_itself}
use Rattle.std.proofs.lemmas.Grind.{flat_map-append}
use Rattle.std.proofs.lemmas.List.Elements.{All-append, All-cons, All-nil}
use Rattle.std.proofs.lemmas.List.Sorted.{searchable_from_sorted}
use Rattle.std.proofs.lemmas.Str.{chars-nil}
use Rattle.unicode_segmentation.specs.Segments.{segments, cut}
use Rattle.ci_words.specs.Noise.{IsNoiseLine, named_words}
use Rattle.ci_words.specs.Words.{words}

-- no text has no words
pub words-nil : words [] ≡ []
unfolding segments cut
words-nil = rw chars-nil refl

pub nil_of_length : (line : List ℕ) → length line ≡ 0 → line ≡ []
nil_of_length [] empty = refl
nil_of_length (b ∷ line) empty = absurd (omega arith)

-- what a search among words in order finds is just what they have
pub searched : (list : List (List ℕ)) (word : List ℕ) (r : Result ℕ ℕ) → IsSorted (slice_cmp nat_cmp) list → IsSearchInRange r (length list) → IsBinarySearchResult (λ w. slice_cmp nat_cmp w word) list r → IsTrue (is_ok r) ↔ Contains list word
searched list word (Ok at) sorted within equal =
    (λ _. (at, within, slice_cmp-IsAntisymmetric nat_cmp-IsAntisymmetric (get_or list at word) word (equal word)), λ _. refl)
searched list word (Err at) sorted within parted = (
  (λ no. cc),
  λ (k, there, is).
      let place = parted (searchable_from_sorted nat_list_cmp_total (λ w. w) list word sorted) in
      let tied : slice_cmp nat_cmp (get_or list k word) word ≡ Equal = rw is (tied_itself nat_list_cmp_total word) in
      elim (cases_lt k at) [
        | inl before ↦ let e = place.0 k word (omega arith) before in cc
        | inr behind ↦ let e = place.1 k word behind there in cc
      ],
)

-- the lines in front of the rest are noise lines, and their words are in the list
pub record ReadSoFar (bytes rest : List ℕ) (number : ℕ) (list : List (List ℕ)) : Type 0 where
  pub front : List (List ℕ)
  pub split : lines bytes ≡ front ++ lines rest
  pub place : length front ≡ number
  pub good : All IsNoiseLine front
  pub named : list ≡ flat_map words front
  pub within : number + length rest ≤ length bytes

-- one line more
pub read_more : (bytes rest later line : List ℕ) (number : ℕ) (list : List (List ℕ)) → ReadSoFar bytes rest number list → lines rest ≡ line ∷ lines later → length later < length rest → IsNoiseLine line → ReadSoFar bytes later (number + 1) (list ++ words line)
read_more bytes rest later line number list so_far first shorter good = record {
  front = so_far.front ++ line ∷ [];
  split = so_far.split ∙ ap (λ ls. so_far.front ++ ls) first ∙ sym (append_assoc so_far.front (line ∷ []) (lines later));
  place = length-append so_far.front (line ∷ []) ∙ ap (λ n. n + 1) so_far.place;
  good = All-append IsNoiseLine so_far.front (line ∷ []) so_far.good (All-cons IsNoiseLine line [] good (All-nil IsNoiseLine));
  named = ap (λ l. l ++ words line) so_far.named ∙ sym (flat_map-append words so_far.front (line ∷ []) ∙ ap (λ l. flat_map words so_far.front ++ l) (append-nil (words line)));
  within = omega (arith, so_far.within);
}

-- where no line is left, all lines were read
pub read_all : (bytes rest : List ℕ) (number : ℕ) (list : List (List ℕ)) → ReadSoFar bytes rest number list → lines rest ≡ [] → All IsNoiseLine (lines bytes) × (list ≡ named_words bytes)
read_all bytes rest number list so_far none =
    let all : lines bytes ≡ so_far.front = so_far.split ∙ ap (λ ls. so_far.front ++ ls) none ∙ append-nil so_far.front in
    (rw all so_far.good, so_far.named ∙ ap (flat_map words) (sym all))
