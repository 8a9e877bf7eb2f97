use Rattle.std.proofs.Common.{true, sym, ap, ◌∙◌}
use Rattle.std.specs.List.{list_any}
use Rattle.std.proofs.lemmas.List.Sorted.{IsNonDecreasingBy-from_sort, IsPermutation-map, list_any-IsPermutation}
use Rattle.ci_dialect.specs.Places.{places_of}
use Rattle.ci_restrict.specs.Walk.{numbers}
use Rattle.ci_restrict.proofs.WalkLemmas.{rise-by}
use Rattle.ci_restrict.proofs.word.prefix_places.Goals as goal

pub returns-clause-same : goal.returns-clause-same
returns-clause-same c =
    let listed = c.in_ok-places.places.items in
    let sorted = c.sort.new.self.items in
    λ test.
    sym (list_any-IsPermutation test (numbers listed) (numbers sorted) (IsPermutation-map (λ p. p.0) listed sorted c.in_ok-sort.ensures.permutation))
    ∙ ap (list_any test) (c.in_ok-places.ensures ∙ ap (λ words. places_of words c.args.property c.args.word.now true) c.words.ensures.items)

pub returns-clause-rise : goal.returns-clause-rise
returns-clause-rise c = rise-by c.sort.new.self.items (IsNonDecreasingBy-from_sort (λ p. p.0) c.sort.new.self.items c.in_ok-sort.ensures.sorted)
