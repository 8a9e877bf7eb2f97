use Rattle.std.proofs.Common.{◌≡◌, ◌-◌, length, sym, ap, take, ◌∙◌, arith}
use Rattle.std.proofs.lemmas.Bool.{both_ways}
use Rattle.ci_query.proofs.PhraseLemmas.{closed-pop, closed-shut}
use Rattle.ci_query.proofs.phrase.drop_open_end.Goals as goal

pub loop-slots-preserved : goal.loop-slots-preserved
loop-slots-preserved c =
    let slots = c.loop-slots.slots.items in
    let open_ = c.ends_open.ensures.open.0 c.loop-slots-test.true in
    let size : c.len.result ≡ length slots = omega arith in
    closed-pop slots _ open_.0 (sym c.deref.ensures.value ∙ open_.1) (c.truncate.ensures.items ∙ ap (λ n. take (n - 1) slots) size)
    ∙ c.loop-slots.invariant

pub returns : goal.returns
returns c =
    let shut = closed-shut c.loop-slots.slots.items (λ front ends. both_ways _ c.loop-slots-test.false (c.ends_open.ensures.open.1 (front, c.deref.ensures.value ∙ ends))) in
    sym shut ∙ c.loop-slots.invariant
