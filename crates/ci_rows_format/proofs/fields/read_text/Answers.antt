use Rattle.std.proofs.Common.{◌∙◌}
use Rattle.ci_rows_format.proofs.ReadLemmas.{text_read, text_bad}
use Rattle.ci_rows_format.proofs.fields.read_text.Goals as goal

pub returns-in_ok-of-in-Ok : goal.returns-in_ok-of-in-Ok
returns-in_ok-of-in-Ok c =
    text_read c.args.bytes.now c.in_ok-text.text.now c.in_ok-text.rest.now c.in_ok-of-in-Ok.field-0 c.in_ok-text.ensures c.in-Ok.ensures.cases.1 (c.in_ok-of-in-Ok.ensures ∙ c.in-Ok.ensures.cases.0)

pub returns-in-Err : goal.returns-in-Err
returns-in-Err c = text_bad c.args.bytes.now c.in_ok-text.text.now c.in_ok-text.rest.now c.in_ok-text.ensures c.in-Err.ensures.cases.0
