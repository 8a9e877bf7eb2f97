-- What contracts see of a catalogue.
use Rattle.std.specs.Prelude.{ℕ, false, List, Option}
use Rattle.ci_journal.specs.Terms.{Terms, empty_beginning}
use Rattle.ci_book.specs.declared.refusal.Refusal.{Refusal}
use Rattle.ci_book.specs.Sheet.{Sheet}

-- its journal and sink, what it was told, the paths that are numbered, and the first refusal, once a
-- step was refused
pub record Core : Type 0 where
  pub sheet : Sheet
  pub terms : Terms
  pub most : ℕ
  pub numbered : List (List ℕ)
  pub refusal : Option Refusal

-- the terms of a session that finds nothing, under these noise words: a document is tried so often, and entries are kept
-- whole
abbrev pub terms_of : List (List ℕ) → ℕ → Terms
terms_of noise retries =
    record { noise = noise; retries = retries; in_lists = false; beginning = empty_beginning }
