use Rattle.std.proofs.Common.{[], ◌∷◌}
use Rattle.ci_query.specs.Reading.{read, repeated}
use Rattle.ci_query.proofs.RepeatLemmas.{SoFar, prepended}
use Rattle.ci_query.proofs.repetition.read_list.Given as goal

abbrev pub invariant-loop-turn : goal.invariant-loop-turn
invariant-loop-turn g l =
    let rule = read g.K.Named.rule in
    SoFar l.sign rule (prepended (l.fn.first ∷ []) (repeated l.sign rule l.fn.reader)) l.list.items l._turn-end l._turn l.reader
