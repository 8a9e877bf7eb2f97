-- What the code finds first in a text.
use Rattle.std.specs.Prelude.{◌≡◌, ◌+◌, List, ℕ, drop, Option, Some, None}
use Rattle.ci_pieces.specs.declared.front.Found.{Found}
use Rattle.ci_pieces.specs.Front.{Front}

-- the piece, and the text behind it
pub record Finds (front : Front) (text : List ℕ) (found : Found) : Type 0 where
  pub kind : found.kind ≡ front.kind
  pub says : found.says.now ≡ front.says
  pub rest : found.rest.now ≡ drop (1 + front.more) text

abbrev pub FindsRelation : Option Front → List ℕ → Option Found → Type 0
FindsRelation (Some front) text (Some found) = Finds front text found
FindsRelation None text None = Unit {0}
FindsRelation (Some front) text None = ⊥
FindsRelation None text (Some found) = ⊥
