use Rattle.std.proofs.Common.{[], ◌∷◌, refl, inl}
use Rattle.std.proofs.lemmas.Result.{err_from_is_err_and}
use Rattle.ci_change.specs.declared.notice.What.TheVariants.{Changed}
use Rattle.ci_chunk.specs.Plain.{plain}
use Rattle.ci_journal.specs.declared.event.Happened.TheVariants.{Put}
use Rattle.ci_journal.specs.declared.request.Request.TheVariants as request
use Rattle.ci_journal.specs.Folds.{next_notice}
use Rattle.ci_journal.specs.Tells.{event}
use Rattle.ci_book.specs.Changes.{noted}
use Rattle.ci_worker.proofs.BatchLemmas.{IfErr-map, OnOk-map}
use Rattle.ci_server.proofs.DocumentLemmas.{MayPut-at, put-at}
use Rattle.ci_server.proofs.NotingLemmas.{first-change, first-put, whole-put}
use Rattle.ci_server.proofs.StepsLemmas.{MaySay-at, steps-starve, steps-stop}
use Rattle.ci_server.proofs.serve_document.serve_put.Goals as goal

pub note_here-requires : goal.note_here-requires
note_here-requires g c = c.requires.asked.sound

pub returns-in_err-seq-clause-err : goal.returns-in_err-seq-clause-err
returns-in_err-seq-clause-err g c =
    let p = err_from_is_err_and c.from_residual.result c.from_residual.ensures.1 in
    let now = c.args.catalog.now in
    rw (p.1, p.2) (c.in_err-seq.ensures.err c.args.id (request.Put c.args.path.now c.args.text.now) (first-change now.terms now.sheet.events c.args.id c.args.path.now (record { 0 = next_notice now.terms now.sheet.events }) c.args.text.now))

pub returns-in_err-transcript-clause-err : goal.returns-in_err-transcript-clause-err
returns-in_err-transcript-clause-err g c =
    let p = err_from_is_err_and c.from_residual-in_err-transcript.result c.from_residual-in_err-transcript.ensures.1 in
    let seq = c.in_ok-seq.seq in
    rw (p.1, p.2) (steps-starve c.args.catalog.now c.args.id (request.Put c.args.path.now c.args.text.now) _ (noted 0 c.args.path.now seq.0 Changed ∷ []) c.in_ok-seq.ensures.ok.at
    (first-change _ _ c.args.id c.args.path.now seq c.args.text.now))

pub put-requires : goal.put-requires
put-requires g c =
    let n = c.in_ok-seq.ensures.ok in
    MayPut-at _ _ c.args.path.now c.args.text.now c.in_ok-seq.seq n.next n.at

pub returns-in_err-put-clause-err : goal.returns-in_err-put-clause-err
returns-in_err-put-clause-err g c =
    let p = err_from_is_err_and c.from_residual-in_err-put.result c.from_residual-in_err-put.ensures.1 in
    let seq = c.in_ok-seq.seq in
    let refused = c.in_err-put.ensures in
    rw (p.1, p.2) (steps-stop c.args.catalog.now c.args.id (request.Put c.args.path.now c.args.text.now) _ _ (noted 0 c.args.path.now seq.0 Changed ∷ [])
    (event 0 (Put c.args.path.now seq (plain c.args.path.now c.args.text.now))) _ refl c.in_ok-seq.ensures.ok.at (first-change _ _ c.args.id c.args.path.now seq c.args.text.now)
    (first-put _ _ c.args.id c.args.path.now seq c.args.text.now c.requires.asked.sound.plain)
    (rw c.in_ok-transcript.ensures at refused.step.refused) refused.fixed (inl refl))

pub say_reply-requires : goal.say_reply-requires
say_reply-requires g c =
    let n = c.in_ok-seq.ensures.ok in
    let u = c.in_ok-put.ensures in
    let put = put-at _ _ c.args.path.now c.args.text.now c.in_ok-seq.seq n.next n.at _ (rw c.in_ok-transcript.ensures at u.step.ok) u.step.unrefused u.fixed in
    MaySay-at _ _ _ c.args.id put refl refl c.requires.asked.may_reply

pub returns-clause-ok : goal.returns-clause-ok
returns-clause-ok g c =
    let seq = c.in_ok-seq.seq in
    let n = c.in_ok-seq.ensures.ok in
    let u = c.in_ok-put.ensures in
    let put = put-at _ _ c.args.path.now c.args.text.now seq n.next n.at _ (rw c.in_ok-transcript.ensures at u.step.ok) u.step.unrefused u.fixed in
    OnOk-map c.say_reply.result (λ replies. replies c.args.catalog.now (request.Put c.args.path.now c.args.text.now)
    (noted 0 c.args.path.now seq.0 Changed ∷ event 0 (Put c.args.path.now seq (plain c.args.path.now c.args.text.now)) ∷ []) put
    (whole-put _ _ c.args.id c.args.path.now seq c.args.text.now c.requires.asked.sound.plain)) c.say_reply.ensures.ok

pub returns-clause-err : goal.returns-clause-err
returns-clause-err g c =
    let seq = c.in_ok-seq.seq in
    let n = c.in_ok-seq.ensures.ok in
    let u = c.in_ok-put.ensures in
    let put = put-at _ _ c.args.path.now c.args.text.now seq n.next n.at _ (rw c.in_ok-transcript.ensures at u.step.ok) u.step.unrefused u.fixed in
    IfErr-map c.say_reply.result (λ fault stops. stops c.args.catalog.now (request.Put c.args.path.now c.args.text.now)
    (noted 0 c.args.path.now seq.0 Changed ∷ event 0 (Put c.args.path.now seq (plain c.args.path.now c.args.text.now)) ∷ []) put
    (first-put _ _ c.args.id c.args.path.now seq c.args.text.now c.requires.asked.sound.plain)
    (whole-put _ _ c.args.id c.args.path.now seq c.args.text.now c.requires.asked.sound.plain)) c.say_reply.ensures.err
