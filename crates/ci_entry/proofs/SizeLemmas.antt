-- The runs of a property are no more, and no longer, than the pieces.
use Rattle.std.proofs.Common.{◌≡◌, ℕ, ◌+◌, ◌≤◌, Bool, List, [], ◌∷◌, length, Option, Some, None, ◌==◌, inl, inr, refl, sym, ap, ◌∙◌, arith, length-append}
use Rattle.std.specs.List.{filter_map, cons_option, sum_by}
use Rattle.std.proofs.lemmas.Bool.{cases_Bool}
use Rattle.std.proofs.lemmas.List.Sums.{sum_by-cons}
use Rattle.ci_chunk.specs.declared.piece.Piece.{Piece}
use Rattle.ci_chunk.specs.declared.piece.Piece.TheVariants.{Words, Held}
use Rattle.ci_chunk.specs.Sizes.{piece_length, text_length}
use Rattle.ci_entry.specs.Gather.{gather_onto, gathered}
use Rattle.ci_entry.specs.Runs.{Passage, goes_on, joined, passage_of, property_runs, runs}

length-gather_onto : {X : Type 0} (belong : X → X → Bool) (join : X → X → X) (x : X) (ys : List X) → length (gather_onto belong join x ys) ≤ length ys + 1
length-gather_onto belong join x [] = omega arith
length-gather_onto belong join x (y ∷ ys) = elim (cases_Bool (belong x y)) [ inl does ↦ rw does (omega arith) | inr doesnt ↦ rw doesnt (omega arith) ]

length-gathered : {X : Type 0} (belong : X → X → Bool) (join : X → X → X) (xs : List X) → length (gathered belong join xs) ≤ length xs
length-gathered belong join [] = omega arith
length-gathered belong join (x ∷ xs) = omega (arith, length-gathered belong join xs, length-gather_onto belong join x (gathered belong join xs))

length-filter_map : {X Y : Type 0} (h : X → Option Y) (xs : List X) → length (filter_map h xs) ≤ length xs
length-filter_map h [] = omega arith
length-filter_map h (x ∷ xs) = let rest = length-filter_map h xs in elim (h x) as (λ o. length (cons_option o (filter_map h xs)) ≤ length (x ∷ xs)) [ None ↦ omega arith | Some y ↦ omega arith ]

pub few_runs : (property : ℕ) (pieces : List Piece) → length (property_runs property pieces) ≤ length pieces
few_runs property pieces =
    omega (arith, length-gathered (λ _ other. goes_on other.before) joined (filter_map (passage_of property) pieces), length-filter_map (passage_of property) pieces)

-- the bytes of passages
abbrev pub passage_bytes : List Passage → ℕ
passage_bytes passages = sum_by (λ (run : Passage). length run.text) passages

bytes-cons : (passage : Passage) (later : List Passage) → passage_bytes (passage ∷ later) ≡ length passage.text + passage_bytes later
bytes-cons passage later = sum_by-cons (λ (run : Passage). length run.text) passage later

-- a join has the bytes of its parts
bytes-onto : (passage : Passage) (later : List Passage) → passage_bytes (gather_onto (λ _ other. goes_on other.before) joined passage later) ≡ length passage.text + passage_bytes later
bytes-onto passage [] = bytes-cons passage []
bytes-onto passage (run ∷ later) =
    elim (cases_Bool (goes_on run.before)) [
      | inl does ↦ rw does (bytes-cons (joined passage run) later ∙ omega (arith, length-append passage.text run.text, bytes-cons run later))
      | inr doesnt ↦ rw doesnt (bytes-cons passage (run ∷ later))
    ]

bytes-runs : (passages : List Passage) → passage_bytes (runs passages) ≡ passage_bytes passages
bytes-runs [] = refl
bytes-runs (passage ∷ later) = bytes-onto passage (runs later) ∙ ap (λ n. length passage.text + n) (bytes-runs later) ∙ sym (bytes-cons passage later)

bytes-piece : (property : ℕ) (piece : Piece) (later : List Passage) → passage_bytes (cons_option (passage_of property piece) later) ≤ piece_length piece + passage_bytes later
bytes-piece property (Words chunk text) later =
    elim (cases_Bool (chunk.property.0 == property)) [
      | inl same ↦ rw same (omega (arith, bytes-cons (record { before = chunk.break_type; text = text }) later))
      | inr other ↦ rw other (omega arith)
    ]
bytes-piece property (Held _ _) later = omega arith

bytes-passages : (property : ℕ) (pieces : List Piece) → passage_bytes (filter_map (passage_of property) pieces) ≤ text_length pieces
bytes-passages property [] = omega arith
bytes-passages property (piece ∷ pieces) =
    omega (arith, bytes-piece property piece (filter_map (passage_of property) pieces), bytes-passages property pieces, sum_by-cons piece_length piece pieces)

pub short_runs : (property : ℕ) (pieces : List Piece) → passage_bytes (property_runs property pieces) ≤ text_length pieces
short_runs property pieces = omega (arith, bytes-runs (filter_map (passage_of property) pieces), bytes-passages property pieces)
