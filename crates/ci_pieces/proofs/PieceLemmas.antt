-- The pieces of a text, and of what stands behind the first.
use Rattle.std.proofs.Common.{◌≡◌, ℕ, zero, suc, ◌+◌, ◌-◌, ◌<◌, ◌≤◌, ◌==◌, false, true, not, List, [], ◌∷◌, drop, length, get_or, refl, sym, ap, ◌∙◌, arith}
use Rattle.std.specs.List.{position_or_len}
use Rattle.std.proofs.lemmas.Bool.{eqb-true, not-false, not-true}
use Rattle.std.proofs.lemmas.List.{get_or-drop, length-drop}
use Rattle.std.proofs.lemmas.List.Sums.{fails_before_first, passes_at_first}
use Rattle.ci_pieces.specs.declared.front.Due.{Due}
use Rattle.ci_pieces.specs.declared.piece.PieceKind.{PieceKind}
use Rattle.ci_pieces.specs.Bytes.{is_blank}
use Rattle.ci_pieces.specs.Cut.{Cut}
use Rattle.ci_pieces.specs.Front.{due_after, front_of}
use Rattle.ci_pieces.specs.Pieces.{pieces_from}
use Rattle.ci_pieces.proofs.FrontLemmas.{first_within}

-- the bytes that a piece takes are passed over
pieces_from-taken : (due : Due) (at n : ℕ) (text : List ℕ) → pieces_from due at n text ≡ pieces_from due (at + n) 0 (drop n text)
pieces_from-taken due at zero [] = refl
pieces_from-taken due at zero (b ∷ bs) = let same : at ≡ at + 0 = omega arith in ap (λ k. pieces_from due k 0 (b ∷ bs)) same
pieces_from-taken due at (suc n) [] = refl
pieces_from-taken due at (suc n) (b ∷ bs) =
    let same : at + 1 + n ≡ at + suc n = omega arith in
    pieces_from-taken due (at + 1) n bs ∙ ap (λ k. pieces_from due k 0 (drop n bs)) same

-- blanks are passed over
pieces_from-blanks : (due : Due) (at n : ℕ) (text : List ℕ) → n ≤ length text → ((k : ℕ) → k < n → is_blank (get_or text k 0) ≡ true) → pieces_from due at 0 text ≡ pieces_from due (at + n) 0 (drop n text)
pieces_from-blanks due at zero text within blank = let same : at ≡ at + 0 = omega arith in ap (λ k. pieces_from due k 0 text) same
pieces_from-blanks due at (suc n) [] within blank = refl
pieces_from-blanks due at (suc n) (b ∷ bs) within blank =
    let same : at + 1 + n ≡ at + suc n = omega arith in
    rw (blank 0 (omega arith))
    (pieces_from-blanks due (at + 1) n bs (omega arith) (λ k below. blank (suc k) (omega arith)) ∙ ap (λ k. pieces_from due k 0 (drop n bs)) same)

pieces_from-begun : (due : Due) (at n : ℕ) (text : List ℕ) → n ≡ position_or_len (λ b. not (is_blank b)) text → pieces_from due at 0 text ≡ pieces_from due (at + n) 0 (drop n text)
pieces_from-begun due at n text is =
    pieces_from-blanks due at n text (omega (arith, first_within (λ b. not (is_blank b)) text))
    (λ k below. not-false _ (fails_before_first (λ b. not (is_blank b)) text k 0 (omega arith)))

n_is : (n p : ℕ) → n ≡ p → n + 0 ≡ p
n_is n p is = omega arith

-- behind the blanks something else stands
pub begun-shown : (text begun : List ℕ) (n : ℕ) → n ≡ position_or_len (λ b. not (is_blank b)) text → begun ≡ drop n text → 0 < length begun → is_blank (get_or begun 0 0) ≡ false
begun-shown text begun n is rest some =
    let within : position_or_len (λ b. not (is_blank b)) text < length text = omega (arith, ap length rest, length-drop n text) in
    let here : get_or begun 0 0 ≡ get_or text (position_or_len (λ b. not (is_blank b)) text) 0 = ap (λ bs. get_or bs 0 0) rest ∙ get_or-drop n text 0 0 ∙ ap (λ k. get_or text k 0) (n_is n _ is) in
    ap is_blank here ∙ not-true _ (passes_at_first (λ b. not (is_blank b)) text 0 within)

count_is : (n : ℕ) → suc n ≡ 1 + n
count_is n = omega arith

-- the first piece, and the pieces of what stands behind it
pieces_from-first : (due : Due) (at : ℕ) (text : List ℕ) → 0 < length text → is_blank (get_or text 0 0) ≡ false
    → let front = front_of due (get_or text 0 0) (drop 1 text) in
    pieces_from due at 0 text ≡ record { kind = front.kind; text = front.says; at = at } ∷ pieces_from (due_after front.kind) (at + (1 + front.more)) 0 (drop (1 + front.more) text)
pieces_from-first due at [] some shown = absurd (omega arith)
pieces_from-first due at (b ∷ bs) some shown =
    let front = front_of due b bs in
    let place : at + 1 + front.more ≡ at + (1 + front.more) = omega arith in
    let behind : drop front.more bs ≡ drop (1 + front.more) (b ∷ bs) = ap (λ n. drop n (b ∷ bs)) (count_is front.more) in
    rw shown (ap (λ ps. record { kind = front.kind; text = front.says; at = at } ∷ ps) (pieces_from-taken (due_after front.kind) (at + 1) front.more bs ∙ ap (λ n. pieces_from (due_after front.kind) n 0 (drop front.more bs)) place ∙ ap (pieces_from (due_after front.kind) (at + (1 + front.more)) 0) behind))

-- where nothing is left, the place says nothing
pieces_from-place : (due : Due) (at other : ℕ) (text : List ℕ) → (0 < length text → at ≡ other) → pieces_from due at 0 text ≡ pieces_from due other 0 text
pieces_from-place due at other [] same = refl
pieces_from-place due at other (b ∷ bs) same = ap (λ n. pieces_from due n 0 (b ∷ bs)) (same (omega arith))

pieces_from-none : (due : Due) (at : ℕ) (text : List ℕ) → (length text == 0) ≡ true → pieces_from due at 0 text ≡ []
pieces_from-none due at [] none = refl
pieces_from-none due at (b ∷ bs) none = let zero_is = eqb-true (length (b ∷ bs)) 0 none in absurd (omega arith)

pub pieces_from-blank : (due : Due) (at : ℕ) (text begun : List ℕ) → begun ≡ drop (position_or_len (λ b. not (is_blank b)) text) text → (length begun == 0) ≡ true → pieces_from due at 0 text ≡ []
pieces_from-blank due at text begun is none =
    pieces_from-begun due at (position_or_len (λ b. not (is_blank b)) text) text refl
    ∙ ap (pieces_from due (at + position_or_len (λ b. not (is_blank b)) text) 0) (sym is)
    ∙ pieces_from-none due (at + position_or_len (λ b. not (is_blank b)) text) begun none

-- the piece that was found behind the blanks, and what stands behind it
pub pieces_from-next : (due : Due) (at : ℕ) (text begun rest says : List ℕ) (kind : PieceKind) (piece : Cut)
    → begun ≡ drop (position_or_len (λ b. not (is_blank b)) text) text → 0 < length begun
    → let front = front_of due (get_or begun 0 0) (drop 1 begun) in
    kind ≡ front.kind → says ≡ front.says → rest ≡ drop (1 + front.more) begun
    → piece ≡ record { kind = kind; text = says; at = at + (length text - length begun) }
    → pieces_from due at 0 text ≡ piece ∷ pieces_from (due_after piece.kind) (at + (length text - length rest)) 0 rest
pieces_from-next due at text begun rest says kind piece is some kind_is says_is rest_is piece_is =
    let n = position_or_len (λ b. not (is_blank b)) text in
    let front = front_of due (get_or begun 0 0) (drop 1 begun) in
    let within : n ≤ length text = first_within (λ b. not (is_blank b)) text in
    let begun_len : length begun ≡ length text - n = ap length is ∙ length-drop n text in
    let rest_len : length rest ≡ length begun - (1 + front.more) = ap length rest_is ∙ length-drop (1 + front.more) begun in
    let start : at + n ≡ at + (length text - length begun) = omega arith in
    let same : piece ≡ record { kind = front.kind; text = front.says; at = at + n } = cc in
    pieces_from-begun due at n text refl
    ∙ ap (pieces_from due (at + n) 0) (sym is)
    ∙ pieces_from-first due (at + n) begun some (begun-shown text begun n refl is some)
    ∙ ap (λ p. p ∷ pieces_from (due_after front.kind) (at + n + (1 + front.more)) 0 (drop (1 + front.more) begun)) (sym same)
    ∙ ap (λ p. piece ∷ pieces_from (due_after p) (at + n + (1 + front.more)) 0 (drop (1 + front.more) begun)) (sym (ap (λ p. p.kind) same))
    ∙ ap (λ r. piece ∷ pieces_from (due_after piece.kind) (at + n + (1 + front.more)) 0 r) (sym rest_is)
    ∙ ap (λ ps. piece ∷ ps) (pieces_from-place (due_after piece.kind) (at + n + (1 + front.more)) (at + (length text - length rest)) rest (λ left. omega arith))
