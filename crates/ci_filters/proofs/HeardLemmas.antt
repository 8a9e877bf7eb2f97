-- What a filter answers by its rules is a conversation that it may have.
use Rattle.std.proofs.Common.{Option, Some, None, subst}
use Rattle.ci_chunk.specs.Talk.{Heard, TalksBy}
use Rattle.ci_chunk.specs.declared.talk.Answer.{Answer}
use Rattle.ci_chunk.specs.declared.talk.Call.{Call}
use Rattle.ci_filters.specs.Formats.{Format}
use Rattle.ci_filters.specs.Talking.{Answers, IsAnswered, Reader}

pub heard : (format : Format) (before after : Reader) (call : Call) (answer : Option Answer)
    → IsAnswered format before call answer after
    → Heard (TalksBy (Answers format) before) call answer (TalksBy (Answers format) after)
heard format before after call (Some answer) step = record {
  might = (after, step, tt);
  goes_on = λ rest talk. (after, step, talk);
}
heard format before after call None same =
    λ rest talk. let Goes : Reader → Type 0 = λ s. TalksBy (Answers format) s rest in subst Goes same talk
