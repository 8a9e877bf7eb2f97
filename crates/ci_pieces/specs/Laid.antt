-- How pieces lie in a text: each is spelled so, each is the longest that begins where it stands, and between them are
-- blanks.
use Rattle.std.specs.Prelude.{◌≡◌, ◌≢◌, ◌<◌, ◌+◌, ◌==◌, ◌⊎◌, ℕ, Bool, true, false, not, List, [], ◌∷◌, ◌++◌, Some, get_or, length}
use Rattle.ci_props.specs.declared.relation.Relation.{Relation}
use Rattle.ci_props.specs.declared.relation.Relation.TheVariants.{Lt, Le, Gt, Ge, Eq, Ne}
use Rattle.ci_pieces.specs.declared.piece.PieceKind.{PieceKind}
use Rattle.ci_pieces.specs.declared.piece.PieceKind.TheVariants as kind
use Rattle.ci_pieces.specs.Bytes.{is_blank, is_end, is_name, is_quote, sign_kind}
use Rattle.ci_pieces.specs.Cut.{Cut}
use Rattle.ci_pieces.specs.Front.{run_kind}

-- the text doesn't go on with a byte that passes
abbrev pub StopsAt : (ℕ → Bool) → List ℕ → Type 0
StopsAt passes rest = (b : ℕ) (bs : List ℕ) → rest ≡ b ∷ bs → passes b ≡ false

-- bytes that pass, at least one, as many as there are
pub record IsLongest (passes : ℕ → Bool) (bytes rest : List ℕ) : Type 0 where
  pub some : bytes ≢ []
  pub each : (place : ℕ) → place < length bytes → passes (get_or bytes place 0) ≡ true
  pub stops : StopsAt passes rest

abbrev pub goes_on : ℕ → Bool
goes_on b = not (is_end b)

abbrev pub HasNoQuote : List ℕ → Type 0
HasNoQuote bytes = (place : ℕ) → place < length bytes → is_quote (get_or bytes place 0) ≡ false

-- a comparison; one of two signs is taken whole
abbrev pub SpellsRelation : Relation → List ℕ → List ℕ → Type 0
SpellsRelation Lt spelled rest = (spelled ≡ 60 ∷ []) × StopsAt (λ b. b == 61) rest
SpellsRelation Le spelled rest = spelled ≡ 60 ∷ 61 ∷ []
SpellsRelation Gt spelled rest = (spelled ≡ 62 ∷ []) × StopsAt (λ b. b == 61) rest
SpellsRelation Ge spelled rest = spelled ≡ 62 ∷ 61 ∷ []
SpellsRelation Eq spelled rest = spelled ≡ 61 ∷ []
SpellsRelation Ne spelled rest = spelled ≡ 33 ∷ 61 ∷ []

-- a piece of this kind that says this is spelled so, before the rest of the text
pub data IsSpelled : PieceKind → List ℕ → List ℕ → List ℕ → Type 0 where
  Sign : (sign : PieceKind) (b : ℕ) (rest : List ℕ) → sign_kind b ≡ Some sign → IsSpelled sign [] (b ∷ []) rest
  Word : (says rest : List ℕ) → IsLongest goes_on says rest → IsSpelled (run_kind says) says says rest
  Bare : (says rest : List ℕ) → IsLongest goes_on says rest → IsSpelled kind.Bare says says rest
  Quoted : (says rest : List ℕ) → HasNoQuote says → IsSpelled kind.Quoted says (34 ∷ says ++ 34 ∷ []) rest
  Property : (says rest : List ℕ) → IsLongest is_name says rest → IsSpelled kind.Property says (64 ∷ says) rest
  Pattern : (says rest : List ℕ) → IsLongest is_name says rest → IsSpelled kind.Pattern says (35 ∷ says) rest
  Compares : (relation : Relation) (spelled rest : List ℕ) → SpellsRelation relation spelled rest → IsSpelled (kind.Relates relation) [] spelled rest
  Unclosed : (more : List ℕ) → HasNoQuote more → IsSpelled kind.Broken [] (34 ∷ more) []
  Nameless : (b : ℕ) (rest : List ℕ) → (b ≡ 64) ⊎ (b ≡ 35) → StopsAt is_name rest → IsSpelled kind.Broken [] (b ∷ []) rest

-- the text, of which so many bytes stand before it, is these pieces, one behind the other, and blanks
pub data AreLaid : ℕ → List ℕ → List Cut → Type 0 where
  Ends : (at : ℕ) → AreLaid at [] []
  Blank : (at b : ℕ) (text : List ℕ) (cuts : List Cut) → is_blank b ≡ true → AreLaid (at + 1) text cuts → AreLaid at (b ∷ text) cuts
  Piece : (at : ℕ) (kind : PieceKind) (says spelled rest : List ℕ) (cuts : List Cut) → IsSpelled kind says spelled rest → AreLaid (at + length spelled) rest cuts
      → AreLaid at (spelled ++ rest) (record { kind = kind; text = says; at = at } ∷ cuts)
