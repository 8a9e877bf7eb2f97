-- A walk over the lines of a head.
use Rattle.std.proofs.Common.{◌≡◌, ℕ, ◌+◌, eqb, true, false, List, [], ◌∷◌, ◌++◌, length, drop, Some, None, refl, sym, ap, ◌∙◌, append_assoc, append-nil}
use Rattle.std.proofs.lemmas.List.{drop-drop, drop_at}
use Rattle.std.specs.Str.Lines.{strip_carriage_return}
use Rattle.ci_filters.specs.Contents.{Item}
use Rattle.ci_filters.specs.Head.{behind_head, ended_lines, field_of, field_items, head_bytes, head_items}

past_line : (line behind : List ℕ) (k : ℕ) → drop (length line + 1 + k) (line ++ 10 ∷ behind) ≡ drop k behind
past_line line behind k =
    let whole = line ++ 10 ∷ behind in
    sym (drop-drop k (length line + 1) whole)
    ∙ ap (λ w. drop k w) (sym (drop-drop 1 (length line) whole) ∙ ap (λ w. drop 1 w) (drop_at line (10 ∷ behind) (length line) refl))

-- a field's chunks are said, and the walk goes on behind its line
pub items_at_field : (items more : List Item) (text line behind : List ℕ) (field : List ℕ × List ℕ)
    → ended_lines text ≡ line ∷ ended_lines behind → field_of line ≡ Some field → more ≡ items ++ field_items field.0 field.1
    → more ++ head_items (ended_lines behind) ≡ items ++ head_items (ended_lines text)
items_at_field items more text line behind field lines is added =
    let head : head_items (ended_lines text) ≡ field_items field.0 field.1 ++ head_items (ended_lines behind) =
    ap head_items lines ∙ rw is refl in
    rw (added, head) (append_assoc items (field_items field.0 field.1) (head_items (ended_lines behind)))

pub behind_at_field : (text line behind : List ℕ) (field : List ℕ × List ℕ)
    → ended_lines text ≡ line ∷ ended_lines behind → text ≡ line ++ 10 ∷ behind → field_of line ≡ Some field
    → behind_head behind ≡ behind_head text
behind_at_field text line behind field lines parts is =
    let bytes : head_bytes (ended_lines text) ≡ length line + 1 + head_bytes (ended_lines behind) = ap head_bytes lines ∙ rw is refl in
    sym (ap (λ n. drop n text) bytes ∙ ap (λ t. drop (length line + 1 + head_bytes (ended_lines behind)) t) parts
    ∙ past_line line behind (head_bytes (ended_lines behind)))

-- where no line is left, nothing is said
pub items_at_end : (items : List Item) (text : List ℕ) → ended_lines text ≡ [] → items ++ head_items (ended_lines text) ≡ items
items_at_end items text none = rw none (append-nil items)

pub behind_at_end : (text : List ℕ) → ended_lines text ≡ [] → behind_head text ≡ text
behind_at_end text none = rw none refl

-- where a line has no name and value, nothing is said
pub items_at_other : (items : List Item) (text line : List ℕ) (later : List (List ℕ)) → ended_lines text ≡ line ∷ later
    → field_of line ≡ None → items ++ head_items (ended_lines text) ≡ items
items_at_other items text line later lines is =
    let head : head_items (ended_lines text) ≡ [] = ap head_items lines ∙ rw is refl in rw head (append-nil items)

-- an empty line is taken
pub behind_at_blank : (text line behind : List ℕ) → ended_lines text ≡ line ∷ ended_lines behind → text ≡ line ++ 10 ∷ behind
    → field_of line ≡ None → eqb (length (strip_carriage_return line)) 0 ≡ true → behind_head text ≡ behind
behind_at_blank text line behind lines parts is blank =
    let bytes : head_bytes (ended_lines text) ≡ length line + 1 = ap head_bytes lines ∙ rw (is, blank) refl in
    let whole = line ++ 10 ∷ behind in
    ap (λ n. drop n text) bytes ∙ ap (λ t. drop (length line + 1) t) parts
    ∙ sym (drop-drop 1 (length line) whole) ∙ ap (λ w. drop 1 w) (drop_at line (10 ∷ behind) (length line) refl)

-- another line begins the rest
pub behind_at_other : (text line : List ℕ) (later : List (List ℕ)) → ended_lines text ≡ line ∷ later → field_of line ≡ None
    → eqb (length (strip_carriage_return line)) 0 ≡ false → behind_head text ≡ text
behind_at_other text line later lines is other =
    let bytes : head_bytes (ended_lines text) ≡ 0 = ap head_bytes lines ∙ rw (is, other) refl in
    ap (λ n. drop n text) bytes
