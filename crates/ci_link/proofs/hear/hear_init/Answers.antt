use Rattle.std.proofs.Common.{refl}
use Rattle.ci_chunk.specs.declared.talk.Answer.TheVariants as said
use Rattle.ci_link.specs.Reading.{init_call}
use Rattle.ci_link.proofs.DocumentLemmas.{passes_from, stands_opened, status_opening}
use Rattle.ci_link.proofs.hear.hear_init.Goals as goal

pub returns-else-is_failing-clause-next : goal.returns-else-is_failing-clause-next
returns-else-is_failing-clause-next c path talk stands =
    rw c.in-Status.is (stands_opened path c.args.document talk c.in-Status.status (passes_from _ c.if-is_failing.ensures.1) stands)

pub returns-then-is_failing-clause-next : goal.returns-then-is_failing-clause-next
returns-then-is_failing-clause-next c path talk stands =
    rw c.in-Status.is (c.of_status.ensures.next path talk (init_call path) (said.Status c.in-Status.status) (status_opening path talk c.in-Status.status (c.if-is_failing.ensures.0 refl)))

pub returns-then-is_failing-clause-nearer : goal.returns-then-is_failing-clause-nearer
returns-then-is_failing-clause-nearer c = c.of_status.ensures.nearer _
