use Rattle.std.proofs.Common.{[], inl, refl}
use Rattle.std.proofs.lemmas.Result.{err_from_is_err_and}
use Rattle.ci_journal.specs.declared.reply.Reply.TheVariants as reply
use Rattle.ci_journal.specs.declared.request.Request.TheVariants as request
use Rattle.ci_server.specs.Turns.Front.{Begins}
use Rattle.ci_server.proofs.DocumentLemmas.{alone-serves, alone-stops}
use Rattle.ci_server.proofs.StepsLemmas.{steps-starve}
use Rattle.ci_worker.proofs.StepLemmas.{IsAt-none}
use Rattle.ci_server.proofs.serve_line.serve_pending.Goals as goal

pub returns-in_err-notices-clause-err : goal.returns-in_err-notices-clause-err
returns-in_err-notices-clause-err g c =
    let p = err_from_is_err_and c.from_residual.result c.from_residual.ensures.1 in
    rw (p.1, p.2) (steps-starve c.args.catalog.now c.args.id request.Pending _ [] (IsAt-none _ c.requires.sound) (inl ([], Begins)))

pub say_reply-requires : goal.say_reply-requires
say_reply-requires g c = c.requires.may_reply

pub returns-clause-ok : goal.returns-clause-ok
returns-clause-ok g c =
    let notices = c.in_ok-notices.notices in
    alone-serves _ _ c.args.id request.Pending (reply.Pending notices) c.requires.sound (notices, refl, c.in_ok-notices.ensures) c.say_reply.result c.say_reply.ensures.ok

pub returns-clause-err : goal.returns-clause-err
returns-clause-err g c =
    let notices = c.in_ok-notices.notices in
    alone-stops _ _ c.args.id request.Pending (reply.Pending notices) c.requires.sound (notices, refl, c.in_ok-notices.ensures) c.say_reply.result c.say_reply.ensures.err
