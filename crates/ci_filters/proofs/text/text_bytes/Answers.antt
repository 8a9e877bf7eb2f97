use Rattle.std.proofs.Common.{◌≡◌, length, Some, true, not, arith, refl, sym, ap, ◌∙◌, ne_eqb}
use Rattle.std.proofs.lemmas.Bool.{and_left, and_right}
use Rattle.std.proofs.lemmas.List.{take_all}
use Rattle.ci_filters.specs.Texts.{ends_inside, file_bytes}
use Rattle.ci_filters.proofs.TextLemmas.{ends_inside-is, text_of-whole, text_of-cut, text_of-none}
use Rattle.ci_filters.proofs.text.text_bytes.Goals as goal
use Rattle.ci_filters.proofs.text.text_bytes.Goals.{else-bytes-eq-FILE_BYTES-via-then-bytes-eq-FILE_BYTES+else-is_none, else-bytes-eq-FILE_BYTES-via-else-bytes-eq-FILE_BYTES}

pub returns-in-Ok-clause-text : goal.returns-in-Ok-clause-text
returns-in-Ok-clause-text c =
    let bytes = c.args.bytes.now in
    ap (λ t. Some t) (take_all (length bytes) bytes (omega arith)) ∙ sym (text_of-whole bytes c.in-Ok.ensures.cases.1)

pub returns-then-is_none-clause-text : goal.returns-then-is_none-clause-text
returns-then-is_none-clause-text c =
    let bytes = c.args.bytes.now in
    let fault = c.in-Err.ensures in
    let ends = ends_inside-is bytes _ c.error_len.result fault.valid_len (c.error_len.ensures ∙ fault.fault) in
    let inside : ends_inside bytes ≡ true = ends ∙ ap not c.is_none.ensures ∙ rw c.if-is_none.true refl in
    rw (c.valid_up_to.ensures ∙ fault.valid_len) (sym (text_of-cut bytes fault.cases.0 c.if-bytes-eq-FILE_BYTES.true inside))

pub returns-else-bytes-eq-FILE_BYTES-clause-text : goal.returns-else-bytes-eq-FILE_BYTES-clause-text
returns-else-bytes-eq-FILE_BYTES-clause-text c =
    let bytes = c.args.bytes.now in
    let fault = c.in-Err.ensures in
    sym (text_of-none bytes fault.cases.0 (elim c.else-bytes-eq-FILE_BYTES.branch [
      | else-bytes-eq-FILE_BYTES-via-then-bytes-eq-FILE_BYTES+else-is_none w ↦ (
          let ends = ends_inside-is bytes _ w.error_len.result fault.valid_len (w.error_len.ensures ∙ fault.fault) in
          and_right _ _ (ends ∙ ap not w.is_none.ensures ∙ rw w.if-is_none.false refl))
      | else-bytes-eq-FILE_BYTES-via-else-bytes-eq-FILE_BYTES w ↦ and_left _ _ (ne_eqb (length bytes) file_bytes w.if-bytes-eq-FILE_BYTES.false)
    ]))
