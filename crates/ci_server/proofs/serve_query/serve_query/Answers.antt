use Rattle.std.proofs.Common.{[], ◌∷◌, ◌∙◌, inr, refl, inl, ap, subst}
use Rattle.std.proofs.lemmas.Result.{err_from_is_err_and}
use Rattle.ci_journal.specs.declared.event.Happened.TheVariants.{Opened, Answered}
use Rattle.ci_journal.specs.declared.reply.Reply.TheVariants as reply
use Rattle.ci_journal.specs.declared.request.Request.TheVariants as request
use Rattle.ci_dialect.specs.Tree.{IsTree}
use Rattle.ci_journal.specs.Tells.{event}
use Rattle.ci_journal.specs.Terms.{Terms}
use Rattle.ci_server.specs.Right.{HasFault}
use Rattle.ci_server.specs.Turns.Front.{Begins}
use Rattle.ci_worker.proofs.BatchLemmas.{IfErr-map, OnOk-map}
use Rattle.ci_server.proofs.QueryLemmas.{Refuses-opening, no_tree, opened-at, may-answer, rested-at, whole-answer, Refuses-answer, Makes-answer}
use Rattle.ci_server.proofs.FrontLemmas.{whole-alone}
use Rattle.ci_server.proofs.NotingLemmas.{first-opened}
use Rattle.ci_worker.proofs.StepLemmas.{step-quiet}
use Rattle.ci_worker.proofs.StepLemmas.{IsAt-none}
use Rattle.ci_server.proofs.StepsLemmas.{MaySay-at, steps-serve, steps-starve, steps-stop}
use Rattle.ci_server.proofs.serve_query.serve_query.Goals as goal

pub returns-in_err-question-clause-err : goal.returns-in_err-question-clause-err
returns-in_err-question-clause-err g c =
    let p = err_from_is_err_and c.from_residual.result c.from_residual.ensures.1 in
    let refused = c.in_err-question.ensures in
    rw (p.1, p.2) (steps-stop c.args.catalog.now c.args.id (request.Query c.args.text.now) _ _ [] (event 0 (Opened c.args.id)) _ refl
    (IsAt-none _ c.requires.sound) (inl ([], Begins)) (first-opened _ _ c.args.id c.args.text.now) (Refuses-opening _ c.args.id c.args.text.now c.requires _ _ refused.refused) refused.fixed (inl refl))

pub returns-in_err-hits-clause-err : goal.returns-in_err-hits-clause-err
returns-in_err-hits-clause-err g c =
    let p = err_from_is_err_and c.from_residual-in_err-hits.result c.from_residual-in_err-hits.ensures.1 in
    let o = c.in_ok-question.ensures in
    let opens = rw c.in-Some.is at o.ok in
    let at = opened-at _ c.args.id c.args.text.now c.requires _ c.in-Some.question opens o.unrefused o.fixed in
    rw (p.1, p.2) (steps-starve c.args.catalog.now c.args.id (request.Query c.args.text.now) _ (event 0 (Opened c.args.id) ∷ []) at
    (first-opened _ _ c.args.id c.args.text.now))

pub answer-requires : goal.answer-requires
answer-requires g c =
    let o = c.in_ok-question.ensures in
    let opens = rw c.in-Some.is at o.ok in
    let at = opened-at _ c.args.id c.args.text.now c.requires _ c.in-Some.question opens o.unrefused o.fixed in
    may-answer _ c.args.id c.args.text.now c.requires _ c.in-Some.question opens c.in_ok-hits.hits at c.in_ok-hits.ensures

pub returns-in_err-answer-clause-err : goal.returns-in_err-answer-clause-err
returns-in_err-answer-clause-err g c =
    let p = err_from_is_err_and c.from_residual-in_err-answer.result c.from_residual-in_err-answer.ensures.1 in
    let q = c.in-Some.question in
    let o = c.in_ok-question.ensures in
    let opens = rw c.in-Some.is at o.ok in
    let at = opened-at _ c.args.id c.args.text.now c.requires _ q opens o.unrefused o.fixed in
    let refused = c.in_err-answer.ensures in
    rw (p.1, p.2) (steps-stop c.args.catalog.now c.args.id (request.Query c.args.text.now) _ _ (event 0 (Opened c.args.id) ∷ []) (event 0 (Answered c.args.id q.at c.in_ok-hits.hits)) _ refl
    at (first-opened _ _ c.args.id c.args.text.now) (inr (whole-answer _ c.args.id c.args.text.now c.requires _ q opens c.in_ok-hits.hits at c.in_ok-hits.ensures)) (Refuses-answer _ c.args.id c.args.text.now c.requires _ q opens _ c.in_ok-hits.hits _ refused.step.refused) refused.fixed (inl refl))

pub returns-clause-ok : goal.returns-clause-ok
returns-clause-ok g c =
    let q = c.in-Some.question in
    let o = c.in_ok-question.ensures in
    let opens = rw c.in-Some.is at o.ok in
    let at = opened-at _ c.args.id c.args.text.now c.requires _ q opens o.unrefused o.fixed in
    let a = c.in_ok-answer.ensures in
    let e = event 0 (Answered c.args.id q.at c.in_ok-hits.hits) in
    let step = step-quiet _ _ e at.sound refl (Makes-answer _ c.args.id c.args.text.now c.requires _ q opens _ c.in_ok-hits.hits a.step.ok) a.step.unrefused a.fixed refl refl in
    steps-serve c.args.catalog.now c.args.id (request.Query c.args.text.now) _ _ (event 0 (Opened c.args.id) ∷ []) e at step (whole-answer _ c.args.id c.args.text.now c.requires _ q opens c.in_ok-hits.hits at c.in_ok-hits.ensures)

pub first_fault-requires : goal.first_fault-requires
first_fault-requires g c =
    let o = c.in_ok-question.ensures in
    let rests = rw c.in_default.is at o.ok in
    let at = rested-at _ c.args.id c.args.text.now c.requires _ rests.1 o.unrefused o.fixed in
    let noise = c.noise.ensures.noise ∙ ap (λ (t : Terms). t.noise) at.remains.told.terms in
    λ tree is. no_tree _ c.args.id c.args.text.now c.requires rests.0 tree (subst (λ ws. IsTree ws c.args.text.now tree) noise is)

pub say_reply-requires : goal.say_reply-requires
say_reply-requires g c =
    let o = c.in_ok-question.ensures in
    let rests = rw c.in_default.is at o.ok in
    let at = rested-at _ c.args.id c.args.text.now c.requires _ rests.1 o.unrefused o.fixed in
    MaySay-at _ _ _ c.args.id at refl refl c.requires.may_reply

pub returns-in_default-clause-ok : goal.returns-in_default-clause-ok
returns-in_default-clause-ok g c =
    let o = c.in_ok-question.ensures in
    let rests = rw c.in_default.is at o.ok in
    let at = rested-at _ c.args.id c.args.text.now c.requires _ rests.1 o.unrefused o.fixed in
    let noise = c.noise.ensures.noise ∙ ap (λ (t : Terms). t.noise) at.remains.told.terms in
    let has = subst (λ ws. HasFault ws c.args.text.now c.in_ok-kind.kind c.in_ok-kind.at) noise c.in_ok-kind.ensures in
    OnOk-map c.say_reply.result (λ replies. replies c.args.catalog.now (request.Query c.args.text.now) [] at
    (whole-alone _ _ c.args.id (request.Query c.args.text.now) (reply.QueryFault c.in_ok-kind.kind c.in_ok-kind.at) (c.in_ok-kind.kind, c.in_ok-kind.at, refl, has))) c.say_reply.ensures.ok

pub returns-in_default-clause-err : goal.returns-in_default-clause-err
returns-in_default-clause-err g c =
    let o = c.in_ok-question.ensures in
    let rests = rw c.in_default.is at o.ok in
    let at = rested-at _ c.args.id c.args.text.now c.requires _ rests.1 o.unrefused o.fixed in
    let noise = c.noise.ensures.noise ∙ ap (λ (t : Terms). t.noise) at.remains.told.terms in
    let has = subst (λ ws. HasFault ws c.args.text.now c.in_ok-kind.kind c.in_ok-kind.at) noise c.in_ok-kind.ensures in
    IfErr-map c.say_reply.result (λ fault stops. stops c.args.catalog.now (request.Query c.args.text.now) [] at (inl ([], Begins))
    (whole-alone _ _ c.args.id (request.Query c.args.text.now) (reply.QueryFault c.in_ok-kind.kind c.in_ok-kind.at) (c.in_ok-kind.kind, c.in_ok-kind.at, refl, has))) c.say_reply.ensures.err

pub returns-in_err-kind-clause-err : goal.returns-in_err-kind-clause-err
returns-in_err-kind-clause-err g c =
    let p = err_from_is_err_and c.from_residual-in_err-kind.result c.from_residual-in_err-kind.ensures.1 in
    let o = c.in_ok-question.ensures in
    let rests = rw c.in_default.is at o.ok in
    rw (p.1, p.2) (steps-starve c.args.catalog.now c.args.id (request.Query c.args.text.now) _ [] (rested-at _ c.args.id c.args.text.now c.requires _ rests.1 o.unrefused o.fixed) (inl ([], Begins)))
