-- What a piece of text is said with.
use Rattle.std.proofs.Common.{◌≡◌, ℕ, eqb, false, List, length, drop, refl, sym, ap}
use Rattle.ci_chunk.specs.declared.status.Status.{Status as Code}
use Rattle.ci_chunk.specs.declared.talk.Answer.TheVariants.{Text}
use Rattle.ci_words.specs.Front.{front_within}
use Rattle.ci_filters.specs.Reading.{piece_bytes, piece_status, say_words}

-- some words are left: a piece is said, with its status
pub words_said : (max most : ℕ) (text piece left : List ℕ) (status : Code) → eqb (length text) 0 ≡ false → most ≡ piece_bytes max
    → piece ≡ front_within most text → left ≡ drop (length piece) text → status ≡ piece_status left
    → (Text status piece ≡ (say_words max text).0) × (left ≡ (say_words max text).1)
words_said max most text piece left status some fits is behind said =
    rw (some, sym fits, sym is, sym behind) (ap (λ s. Text s piece) said, refl)
