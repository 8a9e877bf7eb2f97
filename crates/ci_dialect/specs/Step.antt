-- What is taken from the pieces of a query that are left: what stands there and what is left behind it, or a fault.
use Rattle.std.specs.Prelude.{ℕ, ◌+◌, Bool, true, false, nat_lt, List, [], ◌∷◌, drop, length, not, Option, Some, None, Result, Ok, Err, if◌then◌else◌}
use Rattle.std.specs.List.{before_first}
use Rattle.ci_pieces.specs.declared.piece.PieceKind.{PieceKind}
use Rattle.ci_pieces.specs.declared.piece.PieceKind.TheVariants as kind
use Rattle.ci_pieces.specs.Cut.{Cut}
use Rattle.ci_dialect.specs.declared.fault.QueryFault.{QueryFault}
use Rattle.ci_dialect.specs.declared.fault.QueryFault.TheVariants.{Bad, TooLong}
use Rattle.ci_dialect.specs.declared.sign.Sign.{Sign}
use Rattle.ci_dialect.specs.declared.sign.Sign.TheVariants as sign
use Rattle.ci_dialect.specs.Left.{Left, ahead, next, place}
use Rattle.ci_dialect.specs.Words.{is_item, item_words, words_of}

abbrev pub Outcome : Type 0 → Type 0
Outcome A = Result (A × Left) QueryFault

-- ---- a piece

abbrev pub first_of : List Cut → Left → Outcome Cut
first_of [] l = Err (Bad (place l))
first_of (piece ∷ more) l = Ok (piece, next l)

-- the next piece, whatever it is
abbrev pub piece : Left → Outcome Cut
piece l = first_of l.pieces l

-- value = quoted | bare
abbrev pub value_by : Option PieceKind → Left → Outcome Cut
value_by (Some kind.Quoted) l = piece l
value_by (Some kind.Bare) l = piece l
value_by _ l = Err (Bad (place l))

abbrev pub value : Left → Outcome Cut
value l = value_by (ahead l) l

-- ---- a sign

abbrev pub is : Sign → Option PieceKind → Bool
is sign.Or (Some kind.Or) = true
is sign.And (Some kind.And) = true
is sign.Near (Some kind.Near) = true
is sign.Close (Some kind.Close) = true
is _ _ = false

-- this sign comes next
abbrev pub sees : Sign → Left → Bool
sees s l = is s (ahead l)

abbrev pub expect : Sign → Left → Outcome (Unit {0})
expect s l = if sees s l then Ok (tt, next l) else Err (Bad (place l))

-- ---- items

-- the items that come first: what stands before the first piece that is none
abbrev pub items_of : List Cut → List Cut
items_of pieces = before_first (λ piece. not (is_item piece.kind)) pieces

-- the words of a whole query are counted, noise too
abbrev pub most_words : ℕ
most_words = 1024

-- the place of the item with which there are too many words, if some were read before
abbrev pub too_long : ℕ → List Cut → Option ℕ
too_long read [] = None
too_long read (item ∷ more) =
    if nat_lt most_words (read + length (item_words item)) then Some item.at
    else too_long (read + length (item_words item)) more

abbrev pub counted : Option ℕ → List Cut → Left → Outcome (List Cut)
counted (Some at) found l = Err (TooLong at)
counted None found l =
    Ok (found, record l { pieces = drop (length found) l.pieces; words = l.words + length (words_of found) })

-- { item }
abbrev pub items : Left → Outcome (List Cut)
items l = counted (too_long l.words (items_of l.pieces)) (items_of l.pieces) l
