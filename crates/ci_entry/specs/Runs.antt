-- Runs: texts that are read as one.
use Rattle.std.specs.Prelude.{◌==◌, ℕ, Bool, true, false, List, ◌++◌, Option, Some, None, if◌then◌else◌}
use Rattle.std.specs.List.{filter_map}
use Rattle.ci_chunk.specs.declared.chunk.Break.{Break}
use Rattle.ci_chunk.specs.declared.chunk.Break.TheVariants.{NoBreak, Eow, Eos, Eop, Eoc}
use Rattle.ci_chunk.specs.declared.piece.Piece.{Piece}
use Rattle.ci_chunk.specs.declared.piece.Piece.TheVariants.{Words, Held}
use Rattle.ci_entry.specs.Gather.{gathered}

-- a text with the break before it
pub record Passage : Type 0 where
  pub before : Break
  pub text : List ℕ

-- whether a text goes on where the one before it ends
abbrev pub goes_on : Break → Bool
goes_on NoBreak = true
goes_on Eow = false
goes_on Eos = false
goes_on Eop = false
goes_on Eoc = false

-- two passages as one
abbrev pub joined : Passage → Passage → Passage
joined one other = record { before = one.before; text = one.text ++ other.text }

-- a passage and those that go on behind it are one run; the first begins a run in any case
abbrev pub runs : List Passage → List Passage
runs = gathered (λ _ other. goes_on other.before) joined

-- the text of a property that a piece has
abbrev pub passage_of : ℕ → Piece → Option Passage
passage_of property (Words chunk text) =
    if chunk.property.0 == property then Some record { before = chunk.break_type; text = text }
    else None
passage_of property (Held _ _) = None

-- the runs of a property in a whole transcript
abbrev pub property_runs : ℕ → List Piece → List Passage
property_runs property pieces = runs (filter_map (passage_of property) pieces)
