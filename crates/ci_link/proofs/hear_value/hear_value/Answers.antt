use Rattle.std.proofs.Common.{sym, ◌∙◌}
use Rattle.ci_link.proofs.BoundsLemmas.{bounded-value}
use Rattle.ci_chunk.specs.declared.talk.Answer.TheVariants as said
use Rattle.ci_chunk.specs.declared.talk.Call.TheVariants.{GetValue}
use Rattle.ci_link.proofs.DocumentLemmas.{stands_valueless, status_value}
use Rattle.ci_link.proofs.hear_value.hear_value.Goals as goal

pub returns-in_ok-end_value-in-Status-clause-next : goal.returns-in_ok-end_value-in-Status-clause-next
returns-in_ok-end_value-in-Status-clause-next c path talk stands =
    rw c.in-Status.is
    (stands_valueless path c.args.document talk c.args.chunk _ c.in-Status.status stands (sym c.ends_value.ensures ∙ c.if-not-ends_value.false) c.in_ok-end_value-in-Status.ensures)

pub end_value-requires : goal.end_value-requires
end_value-requires c = bounded-value c.requires.0 c.args.document c.requires.1 c.args.chunk _ c.requires.2

pub returns-then-not-ends_value-clause-next : goal.returns-then-not-ends_value-clause-next
returns-then-not-ends_value-clause-next c path talk stands =
    rw c.in-Status.is (c.of_status.ensures.next path talk GetValue (said.Status c.in-Status.status) (status_value talk c.in-Status.status (sym c.ends_value.ensures ∙ c.if-not-ends_value.true)))

pub returns-then-not-ends_value-clause-nearer : goal.returns-then-not-ends_value-clause-nearer
returns-then-not-ends_value-clause-nearer c = c.of_status.ensures.nearer _
