use Rattle.std.proofs.Common.{◌≡◌, rules, ap, subst, ◌∙◌, List, IsPermutation, is_lt, nat_cmp, arith}
use Rattle.std.proofs.lemmas.Cmp.{nat_list_cmp_total}
use Rattle.std.proofs.lemmas.List.Sorted.{ranks_by, answers_always}
use Rattle.std.specs.Cmp.Lexicographic.{slice_cmp}
use Rattle.ci_change.specs.declared.notice.Notice.{Notice}
use Rattle.ci_change.specs.HandedIn.{HandedIn}
use Rattle.ci_change.specs.Pending.{pending}
use Rattle.ci_change.proofs.PendingLemmas.{waiting_are_pending}
use Rattle.ci_change.proofs.change_list.ChangeList.pending.Goals as goal

pub returns : goal.returns
returns c =
    let listed = c.in_ok-list.ensures ∙ waiting_are_pending c.self.inside.past c.self.inside.register c.self.inside.retries c.self.invariant.0 (omega arith) ∙ ap (λ (h : HandedIn). pending h) c.self.view_is in
    let sorted = c.sort_unstable_by.ensures in
    record {
      same = subst (λ (ns : List Notice). IsPermutation ns c.sort_unstable_by.new.self.items) listed sorted.permutation;
      order = sorted.sorted (λ (x y : Notice). is_lt (slice_cmp nat_cmp x.path y.path)) (ranks_by nat_list_cmp_total (λ (n : Notice). n.path))
          (answers_always _ (λ a r. is_lt r ≡ is_lt (slice_cmp nat_cmp a.0.now.path a.1.0.now.path)) _ (λ f a r g call. search rules));
    }
