use Rattle.std.proofs.Common.{arith}
use Rattle.ci_link.proofs.BoundsLemmas.{bounded-value}
use Rattle.ci_link.proofs.DocumentLemmas.{done_value, stands_value}
use Rattle.ci_link.proofs.hear_value.add_value.Goals as goal

pub returns-then-size-gt-CLIP_BYTES-clause-next : goal.returns-then-size-gt-CLIP_BYTES-clause-next
returns-then-size-gt-CLIP_BYTES-clause-next c path talk status stands =
    done_value path c.args.document talk c.args.chunk c.args.value _ status stands
    (omega (arith, c.saturating_add-size.ensures, c.value_len.ensures, c.if-size-gt-CLIP_BYTES.true)) c.in_ok-end_value.ensures

pub returns-clause-next : goal.returns-clause-next
returns-clause-next c path talk status stands =
    stands_value path c.args.document talk c.args.chunk c.args.value _ status c.saturating_add-size.result stands
    (omega (arith, c.saturating_add-size.ensures, c.value_len.ensures, c.if-size-gt-CLIP_BYTES.false)) (omega (arith, c.if-size-gt-CLIP_BYTES.false)) c.in_ok-end_value-2.ensures

pub end_value-requires : goal.end_value-requires
end_value-requires c = bounded-value c.requires.0 c.args.document c.requires.1 c.args.chunk _ c.requires.2

pub end_value-requires-2 : goal.end_value-requires-2
end_value-requires-2 c = bounded-value c.requires.0 c.args.document c.requires.1 c.args.chunk _ c.requires.2
