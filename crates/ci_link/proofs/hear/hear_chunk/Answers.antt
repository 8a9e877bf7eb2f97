use Rattle.std.proofs.Common.{sym, ◌∙◌}
use Rattle.ci_chunk.specs.declared.talk.Answer.TheVariants as said
use Rattle.ci_chunk.specs.declared.talk.Call.TheVariants.{GetChunk}
use Rattle.ci_link.proofs.DocumentLemmas.{hears_told, hears_passed, status_chunk}
use Rattle.ci_link.proofs.hear.hear_chunk.Goals as goal

pub returns-else-not-is_above-clause-next : goal.returns-else-not-is_above-clause-next
returns-else-not-is_above-clause-next c path talk stands =
    rw (c.in-Chunk.is, c.count_chunk.ensures, c.stage_of.ensures)
    (hears_told path c.args.document talk c.in-Chunk.chunk (sym c.is_above.ensures ∙ c.if-not-is_above.false) stands)

pub returns-else-not-passes_chunk-clause-next : goal.returns-else-not-passes_chunk-clause-next
returns-else-not-passes_chunk-clause-next c path talk stands =
    rw (c.in-Status.is, c.count_chunk-in-Status.ensures)
    (hears_passed path c.args.document talk c.in-Status.status (sym c.ends_chunks.ensures ∙ c.if-ends_chunks.false) (sym c.passes_chunk.ensures ∙ c.if-not-passes_chunk.false) stands)

pub returns-then-not-passes_chunk-clause-next : goal.returns-then-not-passes_chunk-clause-next
returns-then-not-passes_chunk-clause-next c path talk stands =
    rw c.in-Status.is (c.of_status.ensures.next path talk GetChunk (said.Status c.in-Status.status)
    (status_chunk talk c.in-Status.status (sym c.ends_chunks.ensures ∙ c.if-ends_chunks.false) (sym c.passes_chunk.ensures ∙ c.if-not-passes_chunk.true)))

pub returns-then-not-passes_chunk-clause-nearer : goal.returns-then-not-passes_chunk-clause-nearer
returns-then-not-passes_chunk-clause-nearer c = c.of_status.ensures.nearer _
