use Rattle.std.proofs.Common.{rules, ◌≡◌, ℕ, ◌≤◌, not, List, length, take, Option, Some, None, cond, nat_lt, unwrap_or, sym, ap, ◌∙◌, arith}
use Rattle.std.specs.List.{position_or_len}
use Rattle.std.proofs.lemmas.Bool.Decides.{nat_tests}
use Rattle.std.proofs.lemmas.Iterator.{YieldsList-from_slice}
use Rattle.std.proofs.lemmas.Iterator.Search.{position_from_yields_List}
use Rattle.std.proofs.lemmas.List.{length-take-le}
use Rattle.std.proofs.lemmas.List.Sums.{prefix_len-le-length}
use Rattle.ci_pieces.specs.Cut.{Cut}
use Rattle.ci_dialect.specs.Step.{items_of}
use Rattle.ci_dialect.specs.Words.{is_item}
use Rattle.ci_query.proofs.items.len_of_items.Goals as goal

found_or_len : (p n : ℕ) (r : Option ℕ) → r ≡ cond (nat_lt p n) (Some p) None → p ≤ n → unwrap_or r n ≡ p
found_or_len p n r is within = grind (arith, nat_tests)

-- how many items come first, as a search for the first piece that is none answers
length-items_of : (pieces : List Cut) (r : Option ℕ) → r ≡ cond (nat_lt (position_or_len (λ p. not (is_item p.kind)) pieces) (length pieces)) (Some (position_or_len (λ p. not (is_item p.kind)) pieces)) None → unwrap_or r (length pieces) ≡ length (items_of pieces)
length-items_of pieces r is =
    let p = position_or_len (λ p. not (is_item p.kind)) pieces in
    let within : p ≤ length pieces = prefix_len-le-length (λ p. not (not (is_item p.kind))) pieces in
    found_or_len p (length pieces) r is within ∙ sym (length-take-le p pieces within)

-- the items are as many as come first
take-items_of : (pieces : List Cut) (n : ℕ) → n ≡ length (items_of pieces) → take n pieces ≡ items_of pieces
take-items_of pieces n is =
    let p = position_or_len (λ p. not (is_item p.kind)) pieces in
    let within : p ≤ length pieces = prefix_len-le-length (λ p. not (not (is_item p.kind))) pieces in
    ap (λ k. take k pieces) (is ∙ length-take-le p pieces within)

pub returns-clause-first : goal.returns-clause-first
returns-clause-first c =
    let pieces = c.args.pieces.now in
    let found = position_from_yields_List (λ p. not (is_item p.kind)) _ _ c.position-found.result c.position-found.ensures.ran (YieldsList-from_slice pieces c.iter.ensures.rest) (λ x b q k. search rules) in
    c.unwrap_or.ensures ∙ length-items_of pieces c.position-found.result found

pub returns-clause-items : goal.returns-clause-items
returns-clause-items c = take-items_of c.args.pieces.now c.unwrap_or.result (returns-clause-first c)
