use Rattle.std.proofs.Common.{◌≡◌, ◌∙◌, ◌&&◌, not, nat_le, length, subst}
use Rattle.ci_journal.specs.Folds.{is_numbered}
use Rattle.ci_holdings.specs.Core.{Core}
use Rattle.ci_holdings.proofs.NumbersLemmas.{crowds-known, crowds-new}
use Rattle.ci_holdings.proofs.holdings.Holdings.is_crowded.Goals as goal

pub returns-then-is_none : goal.returns-then-is_none
returns-then-is_none g c =
    subst (λ (core : Core). nat_le c.self.inside.most c.len.result ≡ (not (is_numbered core.numbered c.args.path.now) && nat_le core.most (length core.numbered))) c.self.view_is
    (crowds-new c.self.inside.numbers.numbered c.args.path.now c.self.inside.most c.find.result c.len.result c.find.ensures.number c.len.ensures c.if-is_none.ensures)

pub returns-else-is_none : goal.returns-else-is_none
returns-else-is_none g c =
    subst (λ (core : Core). c.is_none.result ≡ (not (is_numbered core.numbered c.args.path.now) && nat_le core.most (length core.numbered))) c.self.view_is
    (c.if-is_none.false ∙ crowds-known c.self.inside.numbers.numbered c.args.path.now c.self.inside.most c.find.result c.find.ensures.number c.if-is_none.ensures)
