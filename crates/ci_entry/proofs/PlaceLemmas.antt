-- The words of runs and their places, run by run.
use Rattle.std.proofs.Common.{◌≡◌, ℕ, ◌+◌, ◌<◌, ◌≤◌, List, [], ◌∷◌, ◌++◌, length, get_or, take, refl, sym, ap, ◌∙◌, arith, append_assoc, append-nil}
use Rattle.std.specs.List.{enumerate_from}
use Rattle.std.proofs.lemmas.List.{map-append, take_more}
use Rattle.ci_chunk.specs.declared.chunk.Break.{Break}
use Rattle.ci_chunk.specs.declared.chunk.Break.TheVariants.{NoBreak, Eow, Eos, Eop, Eoc}
use Rattle.ci_words.specs.Words.{words}
use Rattle.ci_entry.specs.Runs.{Passage}
use Rattle.ci_entry.specs.Words.{gap, gap_before, moved, placed_words}

-- the places up to the end of the last run
abbrev pub ends : List Passage → ℕ
ends [] = 0
ends (run ∷ later) = length (words run.text) + (gap_before later + ends later)

-- the place where a run begins behind others
abbrev pub begins : List Passage → Passage → ℕ
begins [] run = 0
begins (first ∷ more) run = ends (first ∷ more) + gap run.before

pub begins-later : (front : List Passage) (run : Passage) → 0 < length front → begins front run ≡ ends front + gap run.before
begins-later [] run some = absurd (omega arith)
begins-later (first ∷ more) run some = refl

pub begins-first : (front : List Passage) (run : Passage) → length front ≡ 0 → begins front run ≡ ends front
begins-first [] run none = refl
begins-first (first ∷ more) run none = absurd (omega arith)

moved-enumerate : (by n : ℕ) (ws : List (List ℕ)) → moved by (enumerate_from n ws) ≡ enumerate_from (n + by) ws
moved-enumerate by n [] = refl
moved-enumerate by n (w ∷ ws) =
    let next : n + 1 + by ≡ n + by + 1 = omega arith in
    ap (λ rest. (n + by, w) ∷ rest) (moved-enumerate by (n + 1) ws ∙ ap (λ k. enumerate_from k ws) next)

-- one more run has its words behind the others
pub placed_words-push : (front : List Passage) (run : Passage) → placed_words (front ++ run ∷ []) ≡ placed_words front ++ enumerate_from (begins front run) (words run.text)
placed_words-push [] run = append-nil (enumerate_from 0 (words run.text))
placed_words-push (first ∷ []) run =
    let own = enumerate_from 0 (words first.text) in
    let here : 0 + (length (words first.text) + gap run.before) ≡ length (words first.text) + (0 + 0) + gap run.before = omega arith in
    ap (λ l. own ++ moved (length (words first.text) + gap run.before) l) (append-nil (enumerate_from 0 (words run.text)))
    ∙ ap (λ l. own ++ l) (moved-enumerate (length (words first.text) + gap run.before) 0 (words run.text) ∙ ap (λ k. enumerate_from k (words run.text)) here)
    ∙ sym (ap (λ l. l ++ enumerate_from (begins (first ∷ []) run) (words run.text)) (append-nil own))
placed_words-push (first ∷ second ∷ more) run =
    let own = enumerate_from 0 (words first.text) in
    let by = length (words first.text) + gap second.before in
    let rest = placed_words (second ∷ more) in
    let here : begins (second ∷ more) run + by ≡ begins (first ∷ second ∷ more) run = omega arith in
    ap (λ l. own ++ moved by l) (placed_words-push (second ∷ more) run)
    ∙ ap (λ l. own ++ l) (map-append (λ (word : ℕ × List ℕ). (word.0 + by, word.1)) rest (enumerate_from (begins (second ∷ more) run) (words run.text))
    ∙ ap (λ l. moved by rest ++ l) (moved-enumerate by (begins (second ∷ more) run) (words run.text) ∙ ap (λ k. enumerate_from k (words run.text)) here))
    ∙ sym (append_assoc own (moved by rest) (enumerate_from (begins (first ∷ second ∷ more) run) (words run.text)))

pub ends-push : (front : List Passage) (run : Passage) → ends (front ++ run ∷ []) ≡ begins front run + length (words run.text)
ends-push [] run = omega arith
ends-push (first ∷ []) run = omega arith
ends-push (first ∷ second ∷ more) run = omega (arith, ends-push (second ∷ more) run)

pub gap-le : (before : Break) → gap before ≤ 1024
gap-le NoBreak = omega arith
gap-le Eow = omega arith
gap-le Eos = omega arith
gap-le Eop = omega arith
gap-le Eoc = omega arith

module _ (runs : List Passage) (i : ℕ) (run : Passage) (within : i < length runs) (is : run ≡ get_or runs i run) where
  one_run_more : take (i + 1) runs ≡ take i runs ++ run ∷ []
  one_run_more = take_more runs i run within ∙ ap (λ r. take i runs ++ r ∷ []) (sym is)

  -- the words of the runs up to the next
  pub placed_words-more : (begin : ℕ) (text : List ℕ) → begin ≡ begins (take i runs) run → text ≡ run.text → placed_words (take i runs) ++ enumerate_from begin (words text) ≡ placed_words (take (i + 1) runs)
  placed_words-more begin text here own =
      ap (λ k. placed_words (take i runs) ++ enumerate_from k (words text)) here
      ∙ ap (λ t. placed_words (take i runs) ++ enumerate_from (begins (take i runs) run) (words t)) own
      ∙ sym (placed_words-push (take i runs) run) ∙ ap placed_words (sym one_run_more)

  pub ends-more : (begin : ℕ) (text : List ℕ) → begin ≡ begins (take i runs) run → text ≡ run.text → begin + length (words text) ≡ ends (take (i + 1) runs)
  ends-more begin text here own =
      ap (λ k. k + length (words text)) here ∙ ap (λ t. begins (take i runs) run + length (words t)) own
      ∙ sym (ends-push (take i runs) run) ∙ ap ends (sym one_run_more)
