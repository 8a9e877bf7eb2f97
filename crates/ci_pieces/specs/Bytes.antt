-- The bytes that tell where a piece begins and ends.
use Rattle.std.specs.Prelude.{ℕ, ◌==◌, ◌||◌, ◌&&◌, Bool, nat_le, Option, Some, None, if◌then◌else◌}
use Rattle.ci_pieces.specs.declared.piece.PieceKind.{PieceKind}
use Rattle.ci_pieces.specs.declared.piece.PieceKind.TheVariants.{Open, Close, And, Or, Not, Near}

-- a space or a tab
abbrev pub is_blank : ℕ → Bool
is_blank b = b == 32 || b == 9

abbrev pub is_quote : ℕ → Bool
is_quote b = b == 34

-- a byte that is a piece by itself: ( ) & | ! ~
abbrev pub sign_kind : ℕ → Option PieceKind
sign_kind b =
    if b == 40 then Some Open
    else (if b == 41 then Some Close
    else (if b == 38 then Some And
    else (if b == 124 then Some Or
    else (if b == 33 then Some Not
    else (if b == 126 then Some Near
    else None)))))

-- a byte that ends a run, and begins none: a blank, a sign or a quote
abbrev pub is_end : ℕ → Bool
is_end b =
    is_blank b || b == 40 || b == 41 || b == 38 || b == 124 || b == 33 || b == 126 || is_quote b

-- a letter or a digit of ASCII
abbrev pub is_name : ℕ → Bool
is_name b =
    (nat_le 48 b && nat_le b 57) || (nat_le 65 b && nat_le b 90) || (nat_le 97 b && nat_le b 122)
