use Rattle.std.proofs.Common.{refl}
use Rattle.ci_journal.specs.declared.event.Happened.TheVariants.{Said}
use Rattle.ci_journal.specs.Tells.{event}
use Rattle.ci_server.proofs.BesideLemmas.{tried-beside}
use Rattle.ci_server.proofs.DocumentLemmas.{replied, unreplied}
use Rattle.ci_server.proofs.serve_reply.say_reply.Goals as goal

pub returns-clause-ok : goal.returns-clause-ok
returns-clause-ok g c = replied _ _ c.args.id c.args.reply c.say.ensures.fixed c.say.result c.say.ensures.step

pub returns-clause-err : goal.returns-clause-err
returns-clause-err g c = unreplied _ _ c.args.id c.args.reply c.say.ensures.fixed c.say.result c.say.ensures.step

pub returns-clause-beside : goal.returns-clause-beside
returns-clause-beside g c =
    tried-beside _ _ (event 0 (Said c.args.id c.args.reply)) (record { unbatched = refl; unstarted = refl; unlinked = refl }) c.say.result refl c.say.ensures.step
