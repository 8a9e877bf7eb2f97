-- The grammar of queries. Each rule is a line of this table; blanks stand between the pieces.
--
--   query = all { "|" all }
--   all   = not { "&" not }
--   not   = "!" not | near
--   near  = prime { "~" prime }
--   prime = "(" query ")" | words | "@" name words | "@" name comparison value | "#" name value
--   words = item { item }
--   value = quoted | bare
use Rattle.std.specs.Prelude.{ℕ, zero, suc, ◌==◌, List, ◌∷◌, Option, Some, None, Result, Ok, Err, if◌then◌else◌}
use Rattle.ci_base.specs.declared.numbers.PropNo.{PropNo}
use Rattle.ci_pieces.specs.declared.piece.PieceKind.{PieceKind}
use Rattle.ci_pieces.specs.declared.piece.PieceKind.TheVariants as kind
use Rattle.ci_pieces.specs.Cut.{Cut}
use Rattle.ci_dialect.specs.declared.fault.QueryFault.{QueryFault}
use Rattle.ci_dialect.specs.declared.fault.QueryFault.TheVariants.{Bad, TooDeep}
use Rattle.ci_dialect.specs.declared.sign.Opener.{Opener}
use Rattle.ci_dialect.specs.declared.sign.Opener.TheVariants as opener
use Rattle.ci_dialect.specs.declared.sign.Sign.TheVariants as sign
use Rattle.ci_dialect.specs.declared.restriction.Restriction.{Restriction}
use Rattle.ci_dialect.specs.declared.restriction.Restriction.TheVariants as restriction
use Rattle.ci_dialect.specs.Joined.{contents, joined, property_in}
use Rattle.ci_dialect.specs.Left.{ahead, place}
use Rattle.ci_dialect.specs.Rule.{Rule, Give, Fail, Look, Pass, Expect, Piece, Value, Items, Then, Repeat}
use Rattle.ci_dialect.specs.Step.{sees}
use Rattle.ci_dialect.specs.Values.{compared, patterned, worded}
use Rattle.ci_dialect.specs.Words.{restriction_of}

-- the next piece can't stand there
abbrev pub refuse : Rule
refuse = Look (λ l. Fail (Bad (place l)))

-- a term or a fault of it, once its last piece was taken
abbrev pub settle : Result Restriction QueryFault → Rule
settle (Ok tree) = Give tree
settle (Err fault) = Fail fault

-- ---- terms

-- "#" name value
unfoldable pub pattern_term : Rule
pattern_term = Piece (λ name. Value (λ given. settle (patterned name given)))

module _ (noise : List (List ℕ)) where
  -- words, or a prefix run, of the document's text
  unfoldable pub words : Rule
  words = Items (λ found. settle (restriction_of noise contents found))

  -- words of a property that was looked for
  abbrev pub words_of_property : List Cut → Result PropNo QueryFault → Rule
  words_of_property found (Ok property) = settle (restriction_of noise property found)
  words_of_property found (Err fault) = Fail fault

  abbrev pub named_words : Cut → Rule
  named_words name = Items (λ found. words_of_property found (worded name))

  -- behind "@" name: words, or a comparison and a value
  abbrev pub property_by : Cut → Option PieceKind → Rule
  property_by name (Some kind.Run) = named_words name
  property_by name (Some kind.Quoted) = named_words name
  property_by name (Some (kind.Relates relation)) = Pass (Value (λ given. settle (compared name relation given)))
  property_by name _ = refuse

  unfoldable pub property_term : Rule
  property_term = Piece (λ name. Look (λ l. property_by name (ahead l)))

-- ---- rules that hold others, from what reads behind an opening sign

-- `~` joins words and phrases of one property: that of the first
abbrev pub same_property : PropNo → ℕ → Restriction → Option PropNo → Result Restriction QueryFault
same_property property at term (Some other) = if other.0 == property.0 then Ok term else Err (Bad at)
same_property property at term None = Err (Bad at)

module _ (noise : List (List ℕ)) (opened : Opener → Rule) where
  abbrev pub prime_by : Option PieceKind → Rule
  prime_by (Some kind.Open) = Then (opened opener.Parenthesis) (λ inner. Expect sign.Close (Give inner))
  prime_by (Some kind.Run) = words noise
  prime_by (Some kind.Quoted) = words noise
  prime_by (Some kind.Property) = property_term noise
  prime_by (Some kind.Pattern) = pattern_term
  prime_by _ = refuse

  unfoldable pub prime : Rule
  prime = Look (λ l. prime_by (ahead l))

  -- a later operand of `~`
  unfoldable pub near_operand : PropNo → Rule
  near_operand property = Look (λ l. Then prime (λ term. settle (same_property property (place l) term (property_in term))))

  -- behind the first operand of `~`, which stands at the place
  abbrev pub near_by : ℕ → Restriction → Option PropNo → Rule
  near_by at first (Some property) =
      Repeat sign.Near (near_operand property) (λ others. Give (restriction.Proximity property (first ∷ others)))
  near_by at first None = Fail (Bad at)

  unfoldable pub near_others : ℕ → Restriction → Rule
  near_others at first = near_by at first (property_in first)

  unfoldable pub near : Rule
  near = Look (λ l. Then prime (λ first. Look (λ m. if sees sign.Near m then near_others (place l) first else Give first)))

  abbrev pub negation_by : Option PieceKind → Rule
  negation_by (Some kind.Not) = Then (opened opener.Not) (λ inner. Give (restriction.Not inner))
  negation_by _ = near

  unfoldable pub negation : Rule
  negation = Look (λ l. negation_by (ahead l))

  unfoldable pub all : Rule
  all = Then negation (λ first. Repeat sign.And negation (λ others. Give (joined restriction.And first others)))

  unfoldable pub query : Rule
  query = Then all (λ first. Repeat sign.Or all (λ others. Give (joined restriction.Or first others)))

  abbrev pub behind : Opener → Rule
  behind opener.Parenthesis = query
  behind opener.Not = negation

-- ---- the whole

-- an opening sign and what stands behind it, where this many signs more may be open
unfoldable pub opened : List (List ℕ) → ℕ → Opener → Rule
opened noise zero by = Look (λ l. Fail (TooDeep (place l)))
opened noise (suc room) by = Pass (behind noise (opened noise room) by)

-- how many signs may be open
abbrev pub most_open : ℕ
most_open = 64

-- the text ends here
abbrev pub end_by : Restriction → Option PieceKind → Rule
end_by tree None = Give tree
end_by tree (Some _) = refuse

-- a query, behind which the text ends
unfoldable pub whole : List (List ℕ) → Rule
whole noise = Then (query noise (opened noise most_open)) (λ tree. Look (λ l. end_by tree (ahead l)))
