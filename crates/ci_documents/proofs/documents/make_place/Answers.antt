use Rattle.std.proofs.Common.{◌∙◌, Some, cond, ap, sym}
use Rattle.std.specs.BTreeMap.{is_at}
use Rattle.std.specs.Map.{lookup}
use Rattle.std.specs.Ordering.{is_eq}
use Rattle.ci_journal.specs.Terms.{path_cmp}
use Rattle.ci_documents.proofs.DocumentsLemmas.{KeepsEntries-placed, none-by_test}
use Rattle.ci_documents.proofs.documents.make_place.Goals as goal

pub returns-clause-keeps : goal.returns-clause-keeps
returns-clause-keeps c =
    let absent = none-by_test (lookup (is_at (path_cmp c.args.path.now)) c.args.documents.now.entries) (sym c.contains_key.ensures ∙ c.if-contains_key.false) in
    KeepsEntries-placed c.args.documents.now.entries c.insert.new.self.entries c.args.path.now absent
    (λ other. c.in_ok-insert.ensures.updates.0 other
    ∙ ap (λ key. cond (is_eq (path_cmp key other)) (Some c.empty.result) (lookup (is_at (path_cmp other)) c.args.documents.now.entries)) c.in_ok-copy.ensures
    ∙ ap (λ standing. cond (is_eq (path_cmp c.args.path.now other)) (Some standing) (lookup (is_at (path_cmp other)) c.args.documents.now.entries)) c.empty.ensures)
