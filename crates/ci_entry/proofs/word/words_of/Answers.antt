use Rattle.std.proofs.Common.{rules, ◌≡◌, ap, ◌∙◌}
use Rattle.std.specs.Cmp.Rules.{comparing}
use Rattle.std.proofs.lemmas.Result.{IfOk-weaker}
use Rattle.ci_keys.specs.Key.{IsIndexKey}
use Rattle.ci_entry.specs.Gather.{in_order}
use Rattle.ci_entry.specs.Words.{grouped, stand_cmp, words_of}
use Rattle.ci_entry.proofs.InOrderLemmas.{dedup-in_order, All-in_order, IsStrictlySortedBy-in_order}
use Rattle.ci_entry.proofs.StandLemmas.{stand_cmp_total, stand_cmp-IsAntisymmetric}
use Rattle.ci_entry.proofs.word.words_of.Goals as goal

pub group-requires-clause-ascend : goal.group-requires-clause-ascend
group-requires-clause-ascend c =
    let found = c.in_ok-found.found.items in
    rw (dedup-in_order stand_cmp_total stand_cmp-IsAntisymmetric (λ x y. search (comparing, rules)) found c.in_ok-sort.ensures.permutation c.in_ok-sort.ensures.sorted c.dedup.ensures.filtered)
    (IsStrictlySortedBy-in_order stand_cmp_total stand_cmp-IsAntisymmetric found)

pub group-requires-clause-keys : goal.group-requires-clause-keys
group-requires-clause-keys c =
    let found = c.in_ok-found.found.items in
    rw (dedup-in_order stand_cmp_total stand_cmp-IsAntisymmetric (λ x y. search (comparing, rules)) found c.in_ok-sort.ensures.permutation c.in_ok-sort.ensures.sorted c.dedup.ensures.filtered)
    (All-in_order stand_cmp_total stand_cmp-IsAntisymmetric (λ stand. IsIndexKey stand.0) found c.in_ok-found.ensures.keys)

pub returns-clause-list : goal.returns-clause-list
returns-clause-list c =
    let found = c.in_ok-found.found.items in
    let ordered = dedup-in_order stand_cmp_total stand_cmp-IsAntisymmetric (λ x y. search (comparing, rules)) found c.in_ok-sort.ensures.permutation c.in_ok-sort.ensures.sorted c.dedup.ensures.filtered in
    IfOk-weaker c.group.result (λ list. list.items ≡ grouped c.dedup.new.self.items) (λ list. list.items ≡ words_of c.args.noise.now c.args.pieces.now) (λ list is. is ∙ ap grouped (ordered ∙ ap (in_order stand_cmp) c.in_ok-found.ensures.stands)) c.group.ensures.list
