use Rattle.std.proofs.Common.{ℕ, List, ◌≡◌, Some, None, ◌∙◌, ap, subst}
use Rattle.std.specs.BTreeMap.{Updates}
use Rattle.std.specs.Cmp.Lexicographic.{slice_cmp}
use Rattle.std.specs.Ordering.{nat_cmp}
use Rattle.ci_paths.specs.Numbering.{number_of}
use Rattle.ci_paths.proofs.SortedLemmas.{IsSorted-put}
use Rattle.ci_paths.proofs.numbered.Numbered.add.Goals as goal

pub invariant_of-self-2 : goal.invariant_of-self-2
invariant_of-self-2 c =
    let numbered = c.self.inside.listed.items in
    let map = c.self.inside.sorted in
    let path = c.args.path.now in
    let new : number_of numbered path ≡ None = ap (λ n. number_of n path) c.self.view_is ∙ c.requires in
    let put = subst (λ (p : List ℕ). Updates (slice_cmp nat_cmp) map c.insert.new.self p (Some c.args.doc)) c.in_ok-sorted.ensures c.in_ok-insert.ensures.updates in
    rw (c.in-Ok.ensures.items, c.in_ok-reserve.ensures.items, c.in_ok-listed.ensures) (IsSorted-put numbered map c.insert.new.self path c.args.doc c.self.invariant new put)
