use Rattle.std.proofs.Common.{arith, sym, ◌∙◌}
use Rattle.ci_link.proofs.BoundsLemmas.{bounded-text}
use Rattle.ci_chunk.specs.declared.talk.Answer.TheVariants as said
use Rattle.ci_link.specs.Reading.{text_call}
use Rattle.ci_link.proofs.DocumentLemmas.{stands_ended, status_text}
use Rattle.ci_link.proofs.hear_text.hear_text.Goals as goal

pub returns-in_ok-end_text-in-Status-clause-next : goal.returns-in_ok-end_text-in-Status-clause-next
returns-in_ok-end_text-in-Status-clause-next c path talk stands =
    rw c.in-Status.is
    (stands_ended path c.args.document talk c.args.chunk c.args.text _ c.in-Status.status stands (sym c.ends_text.ensures ∙ c.if-not-ends_text.false) c.in_ok-end_text-in-Status.ensures)

pub end_text-requires : goal.end_text-requires
end_text-requires c =
    bounded-text c.requires.0 c.args.document c.requires.1 c.args.chunk c.args.text c.args.text c.requires.2 (omega arith)

pub returns-then-not-ends_text-clause-next : goal.returns-then-not-ends_text-clause-next
returns-then-not-ends_text-clause-next c path talk stands =
    rw c.in-Status.is (c.of_status.ensures.next path talk text_call (said.Status c.in-Status.status) (status_text talk c.in-Status.status (sym c.ends_text.ensures ∙ c.if-not-ends_text.true)))

pub returns-then-not-ends_text-clause-nearer : goal.returns-then-not-ends_text-clause-nearer
returns-then-not-ends_text-clause-nearer c = c.of_status.ensures.nearer _
