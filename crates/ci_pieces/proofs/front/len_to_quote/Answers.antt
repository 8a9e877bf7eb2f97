use Rattle.std.proofs.Common.{rules, ℕ, ◌<◌, length, get_or, subst, sym, ap, ◌∙◌, arith, IsCharBoundary}
use Rattle.std.proofs.lemmas.Iterator.{YieldsList-from_slice}
use Rattle.std.proofs.lemmas.Iterator.Search.{position_from_yields_List}
use Rattle.std.proofs.lemmas.List.Sums.{passes_at_first}
use Rattle.std.specs.List.{position_or_len}
use Rattle.ci_pieces.specs.Bytes.{is_quote}
use Rattle.ci_pieces.proofs.FrontLemmas.{boundary-quote, first_or_len, quote-is}
use Rattle.ci_pieces.proofs.front.len_to_quote.Goals as goal

pub returns-clause-first : goal.returns-clause-first
returns-clause-first c =
    let text = c.args.text.now in
    let found = position_from_yields_List is_quote _ _ c.position-found.result c.position-found.ensures.ran (YieldsList-from_slice text (c.iter.ensures.rest ∙ c.as_bytes.ensures.value)) (λ x b q k. search rules) in
    c.unwrap_or.ensures ∙ first_or_len is_quote text c.position-found.result found

pub returns-clause-boundary : goal.returns-clause-boundary
returns-clause-boundary c =
    let P : ℕ → Type 0 = λ n. IsCharBoundary c.args.text.now n in
    subst P (sym (returns-clause-first c)) (boundary-quote c.args.text.now)

pub returns-clause-quote : goal.returns-clause-quote
returns-clause-quote c within =
    let text = c.args.text.now in
    let at = returns-clause-first c in
    let below : position_or_len is_quote text < length text = omega (arith, at, within) in
    ap (λ n. get_or text n 0) at ∙ quote-is _ (passes_at_first is_quote text 0 below)
