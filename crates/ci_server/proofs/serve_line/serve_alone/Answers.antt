use Rattle.std.proofs.Common.{refl}
use Rattle.ci_journal.specs.declared.reply.Reply.TheVariants as reply
use Rattle.ci_journal.specs.declared.request.Request.TheVariants as request
use Rattle.ci_server.proofs.DocumentLemmas.{alone-serves, alone-stops}
use Rattle.ci_server.proofs.serve_line.serve_alone.Goals as goal

pub returns-in-Wait-clause-ok : goal.returns-in-Wait-clause-ok
returns-in-Wait-clause-ok g c = rw c.in-Wait.is (alone-serves _ _ c.args.id request.Wait reply.Done c.requires.asked.sound (refl, c.requires.asked.replied) c.say_reply.result c.say_reply.ensures.ok)

pub returns-in-Wait-clause-err : goal.returns-in-Wait-clause-err
returns-in-Wait-clause-err g c = rw c.in-Wait.is (alone-stops _ _ c.args.id request.Wait reply.Done c.requires.asked.sound (refl, c.requires.asked.replied) c.say_reply.result c.say_reply.ensures.err)

pub say_reply-requires : goal.say_reply-requires
say_reply-requires g c = c.requires.asked.may_reply

pub returns-in-Quit-clause-ok : goal.returns-in-Quit-clause-ok
returns-in-Quit-clause-ok g c = rw c.in-Quit.is (alone-serves _ _ c.args.id request.Quit reply.Bye c.requires.asked.sound (refl, c.requires.asked.replied) c.say_reply-in-Quit.result c.say_reply-in-Quit.ensures.ok)

pub returns-in-Quit-clause-err : goal.returns-in-Quit-clause-err
returns-in-Quit-clause-err g c = rw c.in-Quit.is (alone-stops _ _ c.args.id request.Quit reply.Bye c.requires.asked.sound (refl, c.requires.asked.replied) c.say_reply-in-Quit.result c.say_reply-in-Quit.ensures.err)

pub say_reply-requires-in-Quit : goal.say_reply-requires-in-Quit
say_reply-requires-in-Quit g c = c.requires.asked.may_reply

pub returns-in-Long-clause-ok : goal.returns-in-Long-clause-ok
returns-in-Long-clause-ok g c = rw c.in-Long.is (alone-serves _ _ c.args.id request.Long reply.Long c.requires.asked.sound refl c.say_reply-in-Long.result c.say_reply-in-Long.ensures.ok)

pub returns-in-Long-clause-err : goal.returns-in-Long-clause-err
returns-in-Long-clause-err g c = rw c.in-Long.is (alone-stops _ _ c.args.id request.Long reply.Long c.requires.asked.sound refl c.say_reply-in-Long.result c.say_reply-in-Long.ensures.err)

pub say_reply-requires-in-Long : goal.say_reply-requires-in-Long
say_reply-requires-in-Long g c = c.requires.asked.may_reply

pub returns-in-Bad-clause-ok : goal.returns-in-Bad-clause-ok
returns-in-Bad-clause-ok g c = rw c.in-Bad.is (alone-serves _ _ c.args.id request.Bad reply.Bad c.requires.asked.sound refl c.say_reply-in-Bad.result c.say_reply-in-Bad.ensures.ok)

pub returns-in-Bad-clause-err : goal.returns-in-Bad-clause-err
returns-in-Bad-clause-err g c = rw c.in-Bad.is (alone-stops _ _ c.args.id request.Bad reply.Bad c.requires.asked.sound refl c.say_reply-in-Bad.result c.say_reply-in-Bad.ensures.err)

pub say_reply-requires-in-Bad : goal.say_reply-requires-in-Bad
say_reply-requires-in-Bad g c = c.requires.asked.may_reply

pub returns-in-Shadow-clause-ok : goal.returns-in-Shadow-clause-ok
returns-in-Shadow-clause-ok g c = rw c.in-Shadow.is (alone-serves _ _ c.args.id request.Shadow reply.Bad c.requires.asked.sound refl c.say_reply-in-Shadow.result c.say_reply-in-Shadow.ensures.ok)

pub returns-in-Shadow-clause-err : goal.returns-in-Shadow-clause-err
returns-in-Shadow-clause-err g c = rw c.in-Shadow.is (alone-stops _ _ c.args.id request.Shadow reply.Bad c.requires.asked.sound refl c.say_reply-in-Shadow.result c.say_reply-in-Shadow.ensures.err)

pub say_reply-requires-in-Shadow : goal.say_reply-requires-in-Shadow
say_reply-requires-in-Shadow g c = c.requires.asked.may_reply

pub returns-in-Master-clause-ok : goal.returns-in-Master-clause-ok
returns-in-Master-clause-ok g c = rw c.in-Master.is (alone-serves _ _ c.args.id request.Master reply.Bad c.requires.asked.sound refl c.say_reply-in-Master.result c.say_reply-in-Master.ensures.ok)

pub returns-in-Master-clause-err : goal.returns-in-Master-clause-err
returns-in-Master-clause-err g c = rw c.in-Master.is (alone-stops _ _ c.args.id request.Master reply.Bad c.requires.asked.sound refl c.say_reply-in-Master.result c.say_reply-in-Master.ensures.err)

pub say_reply-requires-in-Master : goal.say_reply-requires-in-Master
say_reply-requires-in-Master g c = c.requires.asked.may_reply

pub returns-in-Step-clause-ok : goal.returns-in-Step-clause-ok
returns-in-Step-clause-ok g c = rw c.in-Step.is (alone-serves _ _ c.args.id request.Step reply.Bad c.requires.asked.sound refl c.say_reply-in-Step.result c.say_reply-in-Step.ensures.ok)

pub returns-in-Step-clause-err : goal.returns-in-Step-clause-err
returns-in-Step-clause-err g c = rw c.in-Step.is (alone-stops _ _ c.args.id request.Step reply.Bad c.requires.asked.sound refl c.say_reply-in-Step.result c.say_reply-in-Step.ensures.err)

pub say_reply-requires-in-Step : goal.say_reply-requires-in-Step
say_reply-requires-in-Step g c = c.requires.asked.may_reply

pub returns-in-Scan-clause-ok : goal.returns-in-Scan-clause-ok
returns-in-Scan-clause-ok g c = rw c.in-Scan.is (alone-serves _ _ c.args.id request.Scan reply.Bad c.requires.asked.sound refl c.say_reply-in-Scan.result c.say_reply-in-Scan.ensures.ok)

pub returns-in-Scan-clause-err : goal.returns-in-Scan-clause-err
returns-in-Scan-clause-err g c = rw c.in-Scan.is (alone-stops _ _ c.args.id request.Scan reply.Bad c.requires.asked.sound refl c.say_reply-in-Scan.result c.say_reply-in-Scan.ensures.err)

pub say_reply-requires-in-Scan : goal.say_reply-requires-in-Scan
say_reply-requires-in-Scan g c = c.requires.asked.may_reply

pub returns-in-Status-clause-ok : goal.returns-in-Status-clause-ok
returns-in-Status-clause-ok g c = rw c.in-Status.is (alone-serves _ _ c.args.id request.Status reply.Bad c.requires.asked.sound refl c.say_reply-in-Status.result c.say_reply-in-Status.ensures.ok)

pub returns-in-Status-clause-err : goal.returns-in-Status-clause-err
returns-in-Status-clause-err g c = rw c.in-Status.is (alone-stops _ _ c.args.id request.Status reply.Bad c.requires.asked.sound refl c.say_reply-in-Status.result c.say_reply-in-Status.ensures.err)

pub say_reply-requires-in-Status : goal.say_reply-requires-in-Status
say_reply-requires-in-Status g c = c.requires.asked.may_reply

pub returns-in-Load-clause-ok : goal.returns-in-Load-clause-ok
returns-in-Load-clause-ok g c = rw c.in-Load.is (alone-serves _ _ c.args.id (request.Load c.in-Load.seed c.in-Load.count) reply.Bad c.requires.asked.sound refl c.say_reply-in-Load.result c.say_reply-in-Load.ensures.ok)

pub returns-in-Load-clause-err : goal.returns-in-Load-clause-err
returns-in-Load-clause-err g c = rw c.in-Load.is (alone-stops _ _ c.args.id (request.Load c.in-Load.seed c.in-Load.count) reply.Bad c.requires.asked.sound refl c.say_reply-in-Load.result c.say_reply-in-Load.ensures.err)

pub say_reply-requires-in-Load : goal.say_reply-requires-in-Load
say_reply-requires-in-Load g c = c.requires.asked.may_reply
