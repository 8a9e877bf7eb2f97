use Rattle.std.proofs.Common.{ap, Result, Ok, Err, take}
use Rattle.std.specs.Prelude.{OnErr}
use Rattle.ci_link.proofs.TalkLemmas.{doc_at, docs_more, so_far_none, so_far_push, so_far_dies}
use Rattle.ci_link.proofs.RunsOutLemmas.{out_at, out_reading}
use Rattle.ci_link.proofs.daemon.Daemon.talk.Goals as goal

on_err : {T E : Type 0} (r : Result T E) (P : Type 0) → P → OnErr r P
on_err (Ok value) P fact = tt
on_err (Err fault) P fact = fact

pub loop-place-init : goal.loop-place-init
loop-place-init g c = rw c.new-outcomes.ensures (so_far_none c.args.self.now)

pub returns-in-Err-Died-clause-ok : goal.returns-in-Err-Died-clause-ok
returns-in-Err-Died-clause-ok g c =
    so_far_dies c.args.self.now c.loop-place.self c.read_document.new.self c.args.batch.now.docs c.loop-place.place c.loop-place.outcomes c.doc-item.result
    c.loop-place.invariant (doc_at _ _ _ _ c.items-doc-items.ensures c.loop-place-test.true c.doc-item.is)
    (c.in-Err-Died.ensures.died (ap (λ e. Err e) c.in-Err-Died.field-0-is))

pub loop-place-preserved : goal.loop-place-preserved
loop-place-preserved g c =
    rw (c.in_ok-add-in-Ok.ensures.ok, docs_more _ _ _ _ c.items-doc-items.ensures c.loop-place-test.true c.doc-item.is)
    (so_far_push c.args.self.now c.loop-place.self c.read_document.new.self (take c.loop-place.place c.args.batch.now.docs) c.loop-place.outcomes c.doc-item.result
    c.in-Ok.outcome c.loop-place.invariant c.in-Ok.ensures.read)

pub returns-in-Err-OutOfMemory-clause-err : goal.returns-in-Err-OutOfMemory-clause-err
returns-in-Err-OutOfMemory-clause-err g c =
    out_at c.args.self.now c.loop-place.self c.read_document.new.self c.args.batch.now.docs c.loop-place.place c.loop-place.outcomes c.doc-item.result
    c.loop-place.invariant (doc_at _ _ _ _ c.items-doc-items.ensures c.loop-place-test.true c.doc-item.is)
    (c.in-Err-OutOfMemory.ensures.memory (ap (λ e. Err e) c.in-Err-OutOfMemory.field-0-is))

pub returns-in_err-add-in-Ok-clause-err : goal.returns-in_err-add-in-Ok-clause-err
returns-in_err-add-in-Ok-clause-err g c =
    on_err c.from_residual.result _
    (out_at c.args.self.now c.loop-place.self c.read_document.new.self c.args.batch.now.docs c.loop-place.place c.loop-place.outcomes c.doc-item.result
    c.loop-place.invariant (doc_at _ _ _ _ c.items-doc-items.ensures c.loop-place-test.true c.doc-item.is)
    (out_reading c.loop-place.self c.read_document.new.self c.doc-item.result.0 c.in-Ok.outcome c.in-Ok.ensures.read))
