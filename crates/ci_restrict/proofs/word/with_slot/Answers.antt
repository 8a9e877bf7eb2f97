use Rattle.std.proofs.Common.{false, filter, sym, ap, ◌∙◌}
use Rattle.std.proofs.lemmas.Result.{IfOk-weaker}
use Rattle.ci_dialect.specs.Places.{places_of}
use Rattle.ci_restrict.specs.Walk.{numbers}
use Rattle.ci_restrict.proofs.WalkLemmas.{stands}
use Rattle.ci_restrict.proofs.WordLemmas.{filter-all, with-word}
use Rattle.ci_restrict.proofs.word.with_slot.Goals as goal

pub returns-in-Open-clause-ok : goal.returns-in-Open-clause-ok
returns-in-Open-clause-ok c = rw c.in-Open.is (sym (filter-all (numbers c.args.places.items)))

pub returns-in_ok-key-in-Word-clause-ok : goal.returns-in_ok-key-in-Word-clause-ok
returns-in_ok-key-in-Word-clause-ok c =
    let words = c.args.entry.now.words in
    let further = c.args.further in
    let others = numbers c.beside.result.now in
    let key = c.in_ok-key-in-Word in
    let are =
    c.beside.ensures.places ∙ ap (λ p. places_of words p key.key.word false) key.ensures.property
    ∙ ap (λ w. places_of words c.args.property w false) key.ensures.word in
    let lent = ap (λ ps. filter (stands further 0 others) (numbers ps)) c.as_slice.ensures.value in
    rw c.in-Word.is
    (IfOk-weaker c.those_with.result _ _ (λ kept is. is ∙ lent ∙ with-word words c.args.property c.in-Word.word further (numbers c.args.places.items) others are) c.those_with.ensures.ok)
