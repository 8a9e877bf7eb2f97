use Rattle.std.proofs.Common.{ap, Err}
use Rattle.ci_rows_format.proofs.ReadLemmas.{path_read, path_bad}
use Rattle.ci_rows_format.proofs.fields.read_path.Goals as goal

pub returns-in-Ok : goal.returns-in-Ok
returns-in-Ok c = path_read c.args.bytes.now c.in_ok-text.text.now c.in_ok-text.rest.now c.in-Ok.path c.in_ok-text.ensures c.in-Ok.ensures.path c.in-Ok.ensures.ok

pub returns-in-Err-BadPath : goal.returns-in-Err-BadPath
returns-in-Err-BadPath c =
    path_bad c.args.bytes.now c.in_ok-text.text.now c.in_ok-text.rest.now c.in_ok-text.ensures (c.in-Err-BadPath.ensures.bad (ap (λ e. Err e) c.in-Err-BadPath.field-0-is))
