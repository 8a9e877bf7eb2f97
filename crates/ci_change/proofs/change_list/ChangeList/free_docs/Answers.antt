use Rattle.std.proofs.Common.{◌≡◌, ap, subst, ◌∙◌, IfOk, List, take}
use Rattle.ci_change.specs.declared.notice.Notice.{Notice}
use Rattle.ci_change.specs.HandedIn.{HandedIn}
use Rattle.ci_change.specs.Pending.{docs_of, free}
use Rattle.ci_change.proofs.OutLemmas.{free-of_marks}
use Rattle.ci_change.proofs.change_list.ChangeList.free_docs.Goals as goal

pub returns : goal.returns
returns c =
    let same = free-of_marks c.self.inside.past c.self.inside.register c.self.inside.retries c.self.invariant.0 c.self.inside.out.items c.self.invariant.1 ∙ ap (λ (h : HandedIn). free h) c.self.view_is in
    subst (λ (ns : List Notice). IfOk c.free_docs.result (λ docs. docs ≡ docs_of (take c.args.most ns))) same c.free_docs.ensures
