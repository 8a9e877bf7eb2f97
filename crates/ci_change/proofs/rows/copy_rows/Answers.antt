use Rattle.ci_change.proofs.CopyLemmas.{copied-next}
use Rattle.ci_change.proofs.rows.copy_rows.Goals as goal

pub loop-path-preserved : goal.loop-path-preserved
loop-path-preserved c =
    copied-next c.loop-path.copied c.args.rows.now.entries c.loop-path.path-iterator c.next.new.self c.insert.new.self.entries c.in_ok-copy.field-0 c.in-Some.path.now
    c.in-Some.numbers.now c.loop-path.invariant c.in-Some.ensures.steps c.len.ensures.unique c.in_ok-copy.ensures c.in_ok-insert.ensures.entries
