use Rattle.std.proofs.Common.{◌≤◌, subst}
use Rattle.std.proofs.lemmas.Result.{err_from_is_err_and}
use Rattle.ci_book.specs.declared.settings.TheConstants.{JOURNAL_MOST}
use Rattle.ci_book.specs.Sheet.{Sheet}
use Rattle.ci_book.proofs.ChangesLemmas.{LacksRoom-counted, Starves-from_IsReady}
use Rattle.ci_book.proofs.book.Book.enter.Goals as goal

pub returns-in_err-prepare-clause-refused : goal.returns-in_err-prepare-clause-refused
returns-in_err-prepare-clause-refused g c =
    let p = err_from_is_err_and c.from_residual.result c.from_residual.ensures.1 in
    let small = subst (λ (sheet : Sheet). sheet.limit ≤ JOURNAL_MOST) c.self.view_is c.self.invariant.small in
    rw (p.1, p.2) (LacksRoom-counted _ _ _ _ _ small c.bytes-more.ensures c.in_err-prepare.ensures.refused)

pub returns-in_err-lines-clause-refused : goal.returns-in_err-lines-clause-refused
returns-in_err-lines-clause-refused g c =
    let p = err_from_is_err_and c.from_residual-in_err-lines.result c.from_residual-in_err-lines.ensures.1 in
    let small = subst (λ (sheet : Sheet). sheet.limit ≤ JOURNAL_MOST) c.self.view_is c.self.invariant.small in
    rw (p.1, p.2) (Starves-from_IsReady _ _ _ _ _ small c.bytes-more.ensures c.in_ok-prepare.ensures.ok)
