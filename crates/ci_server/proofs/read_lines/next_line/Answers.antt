use Rattle.std.proofs.Common.{sym}
use Rattle.ci_server.proofs.LineLemmas.{GoesOn-served, StopsAt-step, StopsAt-unread, StopsIn-line}
use Rattle.ci_server.proofs.read_lines.next_line.Goals as goal

pub returns-in-Err-clause-err : goal.returns-in-Err-clause-err
returns-in-Err-clause-err g c =
    let e = c.in-Err.ensures in
    rw c.from.ensures (StopsAt-unread c.args.reader.now c.read_line.new.self _ c.in-Err.fault c.requires.between.sound (record {
      loses = e.err;
      rose = λ is. e.failed (let h = is in cc);
      held = λ is. e.failed_within (let h = is in cc);
      failed_before_end = λ is. e.failed_before_end (let h = is in cc);
      endless = λ is. e.endless (let h = is in cc);
      too_long = λ is. e.too_long (let h = is in cc);
      endless_before_end = λ is. e.endless_before_end (let h = is in cc);
    }))

pub returns-in-Ok-serve_line-clause-ok : goal.returns-in-Ok-serve_line-clause-ok
returns-in-Ok-serve_line-clause-ok g c =
    let r = c.in-Ok.ensures in
    let s = c.in-Ok-serve_line.ensures in
    GoesOn-served c.args.reader.now c.read_line.new.self c.in-Ok.line (sym c.if-is_end.ensures) r.ok r.short _ _ r.fed r.last r.stays_ended r.kept s.ok c.in-Ok-serve_line.quits s.quits

pub returns-clause-err : goal.returns-clause-err
returns-clause-err g c =
    StopsAt-step c.args.reader.now c.read_line.new.self _ _ c.in-Err-serve_line.fault c.of_step.result c.of_step.ensures
    (StopsIn-line c.args.reader.now c.read_line.new.self c.in-Ok.line (sym c.if-is_end.ensures) c.in-Ok.ensures.ok c.in-Ok.ensures.short _ _ c.in-Err-serve_line.fault c.in-Err-serve_line.ensures.err)
