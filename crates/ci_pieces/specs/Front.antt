-- What stands first in a text.
use Rattle.std.specs.Prelude.{ℕ, ◌+◌, ◌==◌, ◌&&◌, Bool, not, nat_lt, List, [], ◌∷◌, Option, Some, None, codes, length, slice_index, if◌then◌else◌}
use Rattle.std.specs.List.{before_first}
use Rattle.std.specs.Str.{str_eq_ignore_ascii_case}
use Rattle.ci_props.specs.declared.relation.Relation.TheVariants.{Lt, Le, Gt, Ge, Eq, Ne}
use Rattle.ci_pieces.specs.declared.piece.PieceKind.{PieceKind}
use Rattle.ci_pieces.specs.declared.piece.PieceKind.TheVariants as kind
use Rattle.ci_pieces.specs.declared.front.Due.{Due}
use Rattle.ci_pieces.specs.declared.front.Due.TheVariants as due
use Rattle.ci_pieces.specs.Bytes.{is_end, is_name, is_quote, sign_kind}

-- a piece, what it says, and how many bytes it takes behind its first
pub record Front : Type 0 where
  pub kind : PieceKind
  pub says : List ℕ
  pub more : ℕ

abbrev front : PieceKind → List ℕ → ℕ → Front
front kind says more = record { kind = kind; says = says; more = more }

-- the bytes up to the first that passes a test, or all
abbrev pub up_to : (ℕ → Bool) → List ℕ → List ℕ
up_to test text = before_first test text

-- four runs are operators, in any ASCII case
abbrev pub run_kind : List ℕ → PieceKind
run_kind text =
    if str_eq_ignore_ascii_case text (codes "and") then kind.And
    else (if str_eq_ignore_ascii_case text (codes "or") then kind.Or
    else (if str_eq_ignore_ascii_case text (codes "not") then kind.Not
    else (if str_eq_ignore_ascii_case text (codes "near") then kind.Near
    else kind.Run)))

-- Each takes the first byte and the bytes behind it.

abbrev pub run : ℕ → List ℕ → Front
run b behind = let more = up_to is_end behind in front (run_kind (b ∷ more)) (b ∷ more) (length more)

abbrev pub bare : ℕ → List ℕ → Front
bare b behind = let more = up_to is_end behind in front kind.Bare (b ∷ more) (length more)

-- behind an opening quote: up to the next quote, if there is one
abbrev pub quoted : List ℕ → Front
quoted behind =
    let says = up_to is_quote behind in
    if nat_lt (length says) (length behind) then front kind.Quoted says (length says + 1)
    else front kind.Broken [] (length behind)

-- behind `@` or `#`: a name
abbrev pub named : PieceKind → List ℕ → Front
named sign behind =
    let says = up_to (λ b. not (is_name b)) behind in
    if length says == 0 then front kind.Broken [] 0 else front sign says (length says)

-- what stands where no value and no comparison is due, by its first byte
abbrev pub plain_by : Option PieceKind → ℕ → List ℕ → Front
plain_by (Some sign) b behind = front sign [] 0
plain_by None b behind =
    if is_quote b then quoted behind
    else (if b == 64 then named kind.Property behind
    else (if b == 35 then named kind.Pattern behind
    else run b behind))

abbrev pub plain : ℕ → List ℕ → Front
plain b behind = plain_by (sign_kind b) b behind

-- < <= > >= = != where they stand first
abbrev pub relation : ℕ → List ℕ → Option Front
relation b behind =
    let is_equal_next = slice_index behind 0 == 61 in
    if b == 60 then Some (if is_equal_next then front (kind.Relates Le) [] 1 else front (kind.Relates Lt) [] 0)
    else (if b == 62 then Some (if is_equal_next then front (kind.Relates Ge) [] 1 else front (kind.Relates Gt) [] 0)
    else (if b == 61 then Some (front (kind.Relates Eq) [] 0)
    else (if b == 33 && is_equal_next then Some (front (kind.Relates Ne) [] 1)
    else None)))

abbrev pub relation_or : Option Front → Front → Front
relation_or (Some found) other = found
relation_or None other = other

-- the first piece of a text that begins with this byte, which is no blank
abbrev pub front_of : Due → ℕ → List ℕ → Front
front_of due.Any b behind = plain b behind
front_of due.Relation b behind = relation_or (relation b behind) (plain b behind)
front_of due.Value b behind = if is_end b then plain b behind else bare b behind

-- behind `@name` a comparison may stand; behind its sign, and behind `#name`, a value stands
abbrev pub due_after : PieceKind → Due
due_after kind.Property = due.Relation
due_after kind.Pattern = due.Value
due_after (kind.Relates relation) = due.Value
due_after _ = due.Any
