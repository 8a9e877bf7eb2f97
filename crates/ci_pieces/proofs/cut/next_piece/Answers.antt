use Rattle.std.proofs.Common.{◌≡◌, ◌==◌, false, ◌<◌, length, refl, sym, ◌∙◌, arith, ap, ℕ}
use Rattle.std.proofs.lemmas.Bool.Decides.{nat_tests}
use Rattle.std.proofs.lemmas.List.{length-drop}
use Rattle.ci_pieces.proofs.PieceLemmas.{begun-shown, pieces_from-blank, pieces_from-next}
use Rattle.ci_pieces.proofs.cut.next_piece.Goals as goal

some : (n : ℕ) → (n == 0) ≡ false → 0 < n
some n is = grind (arith, nat_tests)

pub front-found-requires-clause-shown : goal.front-found-requires-clause-shown
front-found-requires-clause-shown c =
    begun-shown c.args.text.now _ _ refl c.past_blanks-begun.ensures (some _ (sym c.is_empty.ensures ∙ c.if-is_empty.false))

pub returns-then-is_empty-clause-first : goal.returns-then-is_empty-clause-first
returns-then-is_empty-clause-first c =
    pieces_from-blank c.args.due c.args.at c.args.text.now _ c.past_blanks-begun.ensures (sym c.is_empty.ensures ∙ c.if-is_empty.true)

pub returns-clause-first : goal.returns-clause-first
returns-clause-first c =
    let found = c.front-found.ensures in
    pieces_from-next c.args.due c.args.at c.args.text.now _ _ _ _ _ c.past_blanks-begun.ensures
    (some _ (sym c.is_empty.ensures ∙ c.if-is_empty.false)) found.kind found.says found.rest c.new.ensures

pub returns-clause-shorter : goal.returns-clause-shorter
returns-clause-shorter c =
    let begun = some _ (sym c.is_empty.ensures ∙ c.if-is_empty.false) in
    omega (arith, ap length c.past_blanks-begun.ensures, ap length c.front-found.ensures.rest, length-drop {A = ℕ})
