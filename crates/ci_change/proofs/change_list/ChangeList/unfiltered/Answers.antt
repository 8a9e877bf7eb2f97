use Rattle.std.proofs.Common.{◌≡◌, rules, ap, subst, ◌∙◌, ℕ, List, IsPermutation, is_lt, nat_cmp, arith}
use Rattle.std.proofs.lemmas.Cmp.{nat_list_cmp_total}
use Rattle.std.proofs.lemmas.List.Sorted.{ranks_by, answers_always}
use Rattle.std.specs.Cmp.Lexicographic.{slice_cmp}
use Rattle.ci_change.specs.HandedIn.{HandedIn}
use Rattle.ci_change.specs.Pending.{paths_of, unfiltered}
use Rattle.ci_change.proofs.PendingLemmas.{given_up_are_unfiltered}
use Rattle.ci_change.proofs.change_list.ChangeList.unfiltered.Goals as goal

pub returns : goal.returns
returns c =
    let given_up = given_up_are_unfiltered c.self.inside.past c.self.inside.register c.self.inside.retries c.self.invariant.0 (omega arith) in
    let listed = c.in_ok-list.ensures ∙ ap paths_of given_up ∙ ap (λ (h : HandedIn). paths_of (unfiltered h)) c.self.view_is in
    let sorted = c.sort_unstable_by.ensures in
    record {
      same = subst (λ (ps : List (List ℕ)). IsPermutation ps c.sort_unstable_by.new.self.items) listed sorted.permutation;
      order = sorted.sorted (λ (x y : List ℕ). is_lt (slice_cmp nat_cmp x y)) (ranks_by nat_list_cmp_total (λ (p : List ℕ). p))
          (answers_always _ (λ a r. is_lt r ≡ is_lt (slice_cmp nat_cmp a.0.now a.1.0.now)) _ (λ f a r g call. search rules));
    }
