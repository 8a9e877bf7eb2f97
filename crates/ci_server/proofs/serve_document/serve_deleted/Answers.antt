use Rattle.std.proofs.Common.{◌≡◌, true, [], ◌∷◌, refl, inl}
use Rattle.std.proofs.lemmas.Result.{err_from_is_err_and}
use Rattle.ci_change.specs.declared.notice.What.TheVariants.{Deleted}
use Rattle.ci_journal.specs.declared.event.Happened.TheVariants.{Erased}
use Rattle.ci_journal.specs.declared.request.Request.TheVariants as request
use Rattle.ci_journal.specs.Folds.{next_notice}
use Rattle.ci_journal.specs.Tells.{event}
use Rattle.ci_book.specs.Changes.{noted}
use Rattle.ci_server.proofs.DeletionLemmas.{Refuses-erasing, always_erases, erased-at}
use Rattle.ci_worker.proofs.BatchLemmas.{IfErr-map, OnOk-map}
use Rattle.ci_server.proofs.NotingLemmas.{first-deletion, first-erased, whole-deleted}
use Rattle.ci_server.proofs.StepsLemmas.{MaySay-at, steps-stop}
use Rattle.ci_server.proofs.serve_document.serve_deleted.Goals as goal

pub note_here-requires : goal.note_here-requires
note_here-requires g c = c.requires.sound

pub returns-in_err-_seq-clause-err : goal.returns-in_err-_seq-clause-err
returns-in_err-_seq-clause-err g c =
    let p = err_from_is_err_and c.from_residual.result c.from_residual.ensures.1 in
    let now = c.args.catalog.now in
    rw (p.1, p.2) (c.in_err-_seq.ensures.err c.args.id (request.Deleted c.args.path.now) (first-deletion now.terms now.sheet.events c.args.id c.args.path.now (record { 0 = next_notice now.terms now.sheet.events })))

pub returns-in_err-erased-clause-err : goal.returns-in_err-erased-clause-err
returns-in_err-erased-clause-err g c =
    let p = err_from_is_err_and c.from_residual-in_err-erased.result c.from_residual-in_err-erased.ensures.1 in
    let seq = c.in_ok-_seq._seq in
    let n = c.in_ok-_seq.ensures.ok in
    let refused = c.in_err-erased.ensures in
    rw (p.1, p.2) (steps-stop c.args.catalog.now c.args.id (request.Deleted c.args.path.now) _ _ (noted 0 c.args.path.now seq.0 Deleted ∷ []) (event 0 (Erased c.args.path.now seq)) _ refl
    n.at (first-deletion _ _ c.args.id c.args.path.now seq) (first-erased _ _ c.args.id c.args.path.now seq c.requires.sound.plain) (Refuses-erasing _ _ c.args.path.now seq c.requires.sound n.next n.at _ _ refused.refused) refused.fixed (inl refl))

pub prove-unreachable-requires : goal.prove-unreachable-requires
prove-unreachable-requires g c =
    let n = c.in_ok-_seq.ensures.ok in
    let yes : c.in_ok-erased.erased ≡ true = always_erases _ _ c.args.path.now c.in_ok-_seq._seq c.requires.sound n.next n.at _ c.in_ok-erased.erased c.in_ok-erased.ensures.ok in
    let no = c.if-prove.true in
    cc

pub say_reply-requires : goal.say_reply-requires
say_reply-requires g c =
    let n = c.in_ok-_seq.ensures.ok in
    let e = c.in_ok-erased.ensures in
    let gone = erased-at _ _ c.args.path.now c.in_ok-_seq._seq c.requires.sound n.next n.at _ c.in_ok-erased.erased e.ok e.unrefused e.fixed in
    MaySay-at _ _ _ c.args.id gone refl refl c.requires.may_reply

pub returns-clause-ok : goal.returns-clause-ok
returns-clause-ok g c =
    let seq = c.in_ok-_seq._seq in
    let n = c.in_ok-_seq.ensures.ok in
    let e = c.in_ok-erased.ensures in
    let gone = erased-at _ _ c.args.path.now seq c.requires.sound n.next n.at _ c.in_ok-erased.erased e.ok e.unrefused e.fixed in
    OnOk-map c.say_reply.result (λ replies. replies c.args.catalog.now (request.Deleted c.args.path.now) (noted 0 c.args.path.now seq.0 Deleted ∷ event 0 (Erased c.args.path.now seq) ∷ []) gone
    (whole-deleted _ _ c.args.id c.args.path.now seq c.requires.sound.plain)) c.say_reply.ensures.ok

pub returns-clause-err : goal.returns-clause-err
returns-clause-err g c =
    let seq = c.in_ok-_seq._seq in
    let n = c.in_ok-_seq.ensures.ok in
    let e = c.in_ok-erased.ensures in
    let gone = erased-at _ _ c.args.path.now seq c.requires.sound n.next n.at _ c.in_ok-erased.erased e.ok e.unrefused e.fixed in
    IfErr-map c.say_reply.result (λ fault stops. stops c.args.catalog.now (request.Deleted c.args.path.now) (noted 0 c.args.path.now seq.0 Deleted ∷ event 0 (Erased c.args.path.now seq) ∷ []) gone
    (first-erased _ _ c.args.id c.args.path.now seq c.requires.sound.plain) (whole-deleted _ _ c.args.id c.args.path.now seq c.requires.sound.plain)) c.say_reply.ensures.err
