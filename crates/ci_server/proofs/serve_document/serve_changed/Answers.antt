use Rattle.std.proofs.Common.{[], ◌∷◌, refl}
use Rattle.std.proofs.lemmas.Result.{err_from_is_err_and}
use Rattle.ci_change.specs.declared.notice.What.TheVariants.{Changed}
use Rattle.ci_journal.specs.declared.request.Request.TheVariants as request
use Rattle.ci_journal.specs.Folds.{next_notice}
use Rattle.ci_book.specs.Changes.{noted}
use Rattle.ci_worker.proofs.BatchLemmas.{IfErr-map, OnOk-map}
use Rattle.ci_server.proofs.NotingLemmas.{first-changed, whole-changed}
use Rattle.ci_server.proofs.StepsLemmas.{MaySay-at}
use Rattle.ci_server.proofs.serve_document.serve_changed.Goals as goal

pub note_here-requires : goal.note_here-requires
note_here-requires g c = c.requires.sound

pub returns-in_err-_seq-clause-err : goal.returns-in_err-_seq-clause-err
returns-in_err-_seq-clause-err g c =
    let p = err_from_is_err_and c.from_residual.result c.from_residual.ensures.1 in
    let now = c.args.catalog.now in
    rw (p.1, p.2) (c.in_err-_seq.ensures.err c.args.id (request.Changed c.args.path.now) (first-changed now.terms now.sheet.events c.args.id c.args.path.now (record { 0 = next_notice now.terms now.sheet.events })))

pub say_reply-requires : goal.say_reply-requires
say_reply-requires g c = MaySay-at _ _ _ c.args.id c.in_ok-_seq.ensures.ok.at refl refl c.requires.may_reply

pub returns-clause-ok : goal.returns-clause-ok
returns-clause-ok g c =
    OnOk-map c.say_reply.result (λ replies. replies c.args.catalog.now (request.Changed c.args.path.now) (noted 0 c.args.path.now c.in_ok-_seq._seq.0 Changed ∷ []) c.in_ok-_seq.ensures.ok.at
    (whole-changed _ _ c.args.id c.args.path.now c.in_ok-_seq._seq)) c.say_reply.ensures.ok

pub returns-clause-err : goal.returns-clause-err
returns-clause-err g c =
    IfErr-map c.say_reply.result (λ fault stops. stops c.args.catalog.now (request.Changed c.args.path.now) (noted 0 c.args.path.now c.in_ok-_seq._seq.0 Changed ∷ []) c.in_ok-_seq.ensures.ok.at
    (first-changed _ _ c.args.id c.args.path.now c.in_ok-_seq._seq) (whole-changed _ _ c.args.id c.args.path.now c.in_ok-_seq._seq)) c.say_reply.ensures.err
