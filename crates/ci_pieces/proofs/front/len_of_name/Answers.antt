use Rattle.std.proofs.Common.{rules, ℕ, not, subst, sym, ◌∙◌, IsCharBoundary}
use Rattle.std.proofs.lemmas.Iterator.{YieldsList-from_slice}
use Rattle.std.proofs.lemmas.Iterator.Search.{position_from_yields_List}
use Rattle.ci_pieces.specs.Bytes.{is_name}
use Rattle.ci_pieces.proofs.FrontLemmas.{boundary-name, first_or_len}
use Rattle.ci_pieces.proofs.front.len_of_name.Goals as goal

pub returns-clause-first : goal.returns-clause-first
returns-clause-first c =
    let text = c.args.text.now in
    let found = position_from_yields_List (λ b. not (is_name b)) _ _ c.position-found.result c.position-found.ensures.ran (YieldsList-from_slice text (c.iter.ensures.rest ∙ c.as_bytes.ensures.value)) (λ x b q k. search rules) in
    c.unwrap_or.ensures ∙ first_or_len (λ b. not (is_name b)) text c.position-found.result found

pub returns-clause-boundary : goal.returns-clause-boundary
returns-clause-boundary c =
    let P : ℕ → Type 0 = λ n. IsCharBoundary c.args.text.now n in
    subst P (sym (returns-clause-first c)) (boundary-name c.args.text.now c.utf8.text)
