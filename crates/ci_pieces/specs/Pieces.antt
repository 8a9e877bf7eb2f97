-- The pieces of a whole text.
use Rattle.std.specs.Prelude.{ℕ, zero, suc, ◌+◌, List, [], ◌∷◌, if◌then◌else◌}
use Rattle.ci_pieces.specs.declared.front.Due.{Due}
use Rattle.ci_pieces.specs.declared.front.Due.TheVariants.{Any}
use Rattle.ci_pieces.specs.Bytes.{is_blank}
use Rattle.ci_pieces.specs.Cut.{Cut}
use Rattle.ci_pieces.specs.Front.{Front, front_of, due_after}

abbrev cut_at : Front → ℕ → Cut
cut_at front at = record { kind = front.kind; text = front.says; at = at }

-- The pieces of the text that stands at a place. The first number counts the bytes that the last piece
-- still takes; blanks are passed over.
abbrev pub pieces_from : Due → ℕ → ℕ → List ℕ → List Cut
pieces_from due at taken [] = []
pieces_from due at zero (b ∷ bs) =
    if is_blank b then pieces_from due (at + 1) zero bs
    else cut_at (front_of due b bs) at ∷ pieces_from (due_after (front_of due b bs).kind) (at + 1) (front_of due b bs).more bs
pieces_from due at (suc taken) (b ∷ bs) = pieces_from due (at + 1) taken bs

-- the pieces of a text
abbrev pub pieces : List ℕ → List Cut
pieces text = pieces_from Any 0 0 text
