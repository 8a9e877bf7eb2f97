use Rattle.std.proofs.Common.{rules}
use Rattle.std.specs.Ordering.{nat_cmp}
use Rattle.std.proofs.lemmas.Fn.{always_returns_same}
use Rattle.ci_part.proofs.PartLemmas.{doc_found, doc_lacks}
use Rattle.ci_part.proofs.part.place_of.Goals as goal

pub returns-in-Ok-clause-found : goal.returns-in-Ok-clause-found
returns-in-Ok-clause-found c =
    let by_doc = c.in-Ok.ensures.position (λ row. nat_cmp row.doc.0 c.args.doc.0) (always_returns_same _ _ _ (λ a r g called. search rules)) in
    doc_found c.args.rows.now c.args.doc c.requires.ascend c.in-Ok.place c.in-Ok.ensures.bound by_doc

pub returns-in-Err-clause-none : goal.returns-in-Err-clause-none
returns-in-Err-clause-none c =
    let by_doc = c.in-Err.ensures.position (λ row. nat_cmp row.doc.0 c.args.doc.0) (always_returns_same _ _ _ (λ a r g called. search rules)) in
    λ none. doc_lacks c.args.rows.now c.args.doc c.requires.ascend c.in-Err.field-0 by_doc
