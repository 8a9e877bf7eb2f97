use Rattle.std.proofs.Common.{ap, sym, subst, ◌∙◌, List, take}
use Rattle.ci_change.specs.declared.batch.Batch.{Batch}
use Rattle.ci_change.specs.ChangeList.{IsMarked, IsUpToDate}
use Rattle.ci_change.specs.HandedIn.{HandedIn}
use Rattle.ci_change.specs.Pending.{docs_of, free}
use Rattle.ci_change.specs.Register.{Kept}
use Rattle.ci_change.proofs.OutLemmas.{own_notices, IsMarked-taken, IsUpToDate-marked, taken_rows}
use Rattle.ci_change.proofs.change_list.ChangeList.take_batch.Goals as goal

pub mark-requires-clause-own : goal.mark-requires-clause-own
mark-requires-clause-own c = own_notices c.self.inside.past c.self.inside.register c.self.inside.retries c.self.invariant.0

pub mark-requires-clause-rows : goal.mark-requires-clause-rows
mark-requires-clause-rows c =
    let are = c.items-then-not-is_empty.ensures ∙ c.in_ok-free_docs.ensures ∙ ap (λ (h : HandedIn). docs_of (take c.args.max (free h))) (sym c.self.view_is) in
    taken_rows c.self.inside.past c.self.inside.register c.self.inside.retries c.self.invariant.0 _ c.self.invariant.1 c.args.max _ are

pub invariant_of-self-then-not-is_empty : goal.invariant_of-self-then-not-is_empty
invariant_of-self-then-not-is_empty c =
    let are = c.items-then-not-is_empty.ensures ∙ c.in_ok-free_docs.ensures ∙ ap (λ (h : HandedIn). docs_of (take c.args.max (free h))) (sym c.self.view_is) in
    let same = ap (λ (b : Batch). b.docs) c.in_ok-copy.ensures ∙ sym c.items-then-not-is_empty.ensures in
    let taken = IsMarked-taken c.self.inside.past c.self.inside.register c.self.inside.retries c.self.invariant.0 _ c.self.invariant.1 c.args.max _ are c.mark.new.self c.in_ok-copy.field-0 same c.mark.ensures in
    let up = IsUpToDate-marked c.self.inside.past c.self.inside.register c.self.inside.retries c.self.invariant.0 c.mark.new.self _ _ c.mark.ensures in
    subst (λ (k : Kept). IsUpToDate c.self.inside.past k c.self.inside.retries × IsMarked k c.push.new.self.items) (sym c.skip.ensures)
    (up, subst (λ (bs : List Batch). IsMarked c.mark.new.self bs) (sym c.in_ok-push.ensures.items) taken)
