-- What filters make of files.
use Rattle.std.specs.Prelude.{ℕ, ◌==◌, Bool, List, [], ◌∷◌, ◌++◌, ◌||◌, Option, Some, codes, option_map}
use Rattle.std.specs.List.{ends_with}
use Rattle.ci_filters.specs.Contents.{Item}
use Rattle.ci_filters.specs.Head.{behind_head, ended_lines, head_items}
use Rattle.ci_filters.specs.Items.{last_part, filename, size, contents}
use Rattle.ci_filters.specs.Texts.{text_of}

-- the paths that a filter takes, and the chunks of a document by its path and its bytes. None: the bytes are no document
-- of the filter's.
pub record Format : Type 0 where
  pub accepts : List ℕ → Bool
  pub items : List ℕ → List ℕ → Option (List Item)

-- the name of the path's document ends so
abbrev pub has_ending : List ℕ → List ℕ → Bool
has_ending ending path = ends_with ◌==◌ (last_part path) ending

-- files of which nothing is known but the name and the size
abbrev pub null : Format
null = record {
  accepts = λ path. has_ending (codes ".bin") path || has_ending (codes ".dat") path;
  items = λ path bytes. Some (filename path ∷ size bytes ∷ []);
}

-- files that are a text: the name, the size, and the whole text
abbrev pub plain_items : List ℕ → List ℕ → List ℕ → List Item
plain_items path bytes text = filename path ∷ size bytes ∷ contents text ∷ []

abbrev pub plain : Format
plain = record {
  accepts = λ path. has_ending (codes ".txt") path || has_ending (codes ".md") path || has_ending (codes ".log") path
      || has_ending (codes ".csv") path;
  items = λ path bytes. option_map (plain_items path bytes) (text_of bytes);
}

-- texts that begin with properties: the name, the size, the chunks of the head, and the rest of the text
abbrev pub props_items : List ℕ → List ℕ → List ℕ → List Item
props_items path bytes text =
    filename path ∷ size bytes ∷ (head_items (ended_lines text) ++ contents (behind_head text) ∷ [])

abbrev pub props : Format
props = record {
  accepts = λ path. has_ending (codes ".props") path;
  items = λ path bytes. option_map (props_items path bytes) (text_of bytes);
}
