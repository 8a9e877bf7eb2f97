use Rattle.std.proofs.Common.{ap, ◌∙◌, sym, arith}
use Rattle.ci_dialect.specs.Words.{slot_of}
use Rattle.ci_query.specs.Words.{with_slot}
use Rattle.ci_query.proofs.PhraseLemmas.{begun-next}
use Rattle.ci_query.proofs.phrase.slots_of.Goals as goal

pub loop-word-preserved : goal.loop-word-preserved
loop-word-preserved c =
    c.in_ok-add_slot.ensures
    ∙ ap (λ slots. with_slot slots (slot_of c.args.noise.now c.word-item.result)) c.loop-word.invariant
    ∙ sym (begun-next c.args.noise.now c.args.words.now c.loop-word.word-index c.word-item.result (omega arith) c.word-item.is)
