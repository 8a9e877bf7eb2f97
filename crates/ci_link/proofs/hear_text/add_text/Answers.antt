use Rattle.std.proofs.Common.{arith, ◌≡◌, ◌++◌, sym, ◌∙◌, ap, length, length-append}
use Rattle.ci_link.proofs.BoundsLemmas.{bounded-text}
use Rattle.ci_link.proofs.DocumentLemmas.{stands_text, stands_last}
use Rattle.ci_link.proofs.hear_text.add_text.Goals as goal

pub returns-then-goes_on-clause-next : goal.returns-then-goes_on-clause-next
returns-then-goes_on-clause-next c path talk stands =
    let n : length c.as_str.result.now ≡ length c.args.part.now = ap length c.as_str.ensures in
    stands_text path c.args.document talk c.args.chunk c.args.text c.args.part.now c.in_ok-text-2.text c.args.status c.saturating_add-size.result stands
    (omega (arith, c.saturating_add-size.ensures, c.if-size-gt-CLIP_BYTES.false, n)) (omega (arith, c.if-size-gt-CLIP_BYTES.false))
    (sym c.goes_on.ensures ∙ c.if-goes_on.true) (c.in_ok-text-2.ensures ∙ ap (λ t. c.args.text ++ t) c.as_str-2.ensures)

pub returns-clause-next : goal.returns-clause-next
returns-clause-next c path talk stands =
    let n : length c.as_str.result.now ≡ length c.args.part.now = ap length c.as_str.ensures in
    stands_last path c.args.document talk c.args.chunk c.args.text c.args.part.now c.in_ok-text-2.text _ c.args.status c.saturating_add-size.result stands
    (omega (arith, c.saturating_add-size.ensures, c.if-size-gt-CLIP_BYTES.false, n)) (omega (arith, c.if-size-gt-CLIP_BYTES.false))
    (sym c.goes_on.ensures ∙ c.if-goes_on.false) (c.in_ok-text-2.ensures ∙ ap (λ t. c.args.text ++ t) c.as_str-2.ensures) c.in_ok-end_text-2.ensures

pub end_text-requires : goal.end_text-requires
end_text-requires c =
    bounded-text c.requires.0 c.args.document c.requires.1 c.args.chunk c.args.text c.in_ok-text.text c.requires.2
    (omega (arith, ap length c.in_ok-text.ensures, length-append c.args.text c.cut.result.now, c.cut.ensures.within, c.saturating_sub-room.ensures))

pub end_text-requires-2 : goal.end_text-requires-2
end_text-requires-2 c =
    bounded-text c.requires.0 c.args.document c.requires.1 c.args.chunk c.args.text c.in_ok-text-2.text c.requires.2
    (omega (
      arith,
      ap length c.in_ok-text-2.ensures,
      length-append c.args.text c.as_str-2.result.now,
      ap length c.as_str.ensures,
      ap length c.as_str-2.ensures,
      c.saturating_add-size.ensures,
      c.if-size-gt-CLIP_BYTES.false,
    ))
