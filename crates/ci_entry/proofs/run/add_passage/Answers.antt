use Rattle.std.proofs.Common.{◌-◌, ap, ◌∙◌, arith, sym}
use Rattle.ci_entry.specs.Runs.{Passage, joined}
use Rattle.ci_entry.proofs.RunLemmas.{runs-joined, runs-begun}
use Rattle.ci_entry.proofs.run.add_passage.Goals as goal
use Rattle.ci_entry.proofs.run.add_passage.Goals.{else-count-gt0-via-then-count-gt0+else-goes_on, else-count-gt0-via-else-count-gt0}

pub returns-in_ok-join : goal.returns-in_ok-join
returns-in_ok-join c all same =
    let passage : Passage = record { before = c.args.before; text = c.args.text.now } in
    let run = c.in_ok-join.ensures ∙ ap (λ last. joined last passage) c.index_mut-last.ensures.value in
    runs-joined all c.args.list.now.items (c.len-count.result - 1) c.index_mut-last.result.now passage c.join.new.self same (omega arith) (sym c.if-goes_on.ensures) run

pub returns-in_ok-push : goal.returns-in_ok-push
returns-in_ok-push c all same =
    let run = c.in_ok-begin.ensures in
    rw (c.in_ok-push.ensures.items, run)
    (runs-begun all c.args.list.now.items record { before = c.args.before; text = c.args.text.now } same (λ some. elim c.else-count-gt0.branch [
      | else-count-gt0-via-then-count-gt0+else-goes_on w ↦ sym w.if-goes_on.ensures
      | else-count-gt0-via-else-count-gt0 w ↦ absurd (omega arith)
    ]))
