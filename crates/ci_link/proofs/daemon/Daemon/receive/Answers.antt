use Rattle.std.proofs.Common.{sym, take}
use Rattle.ci_link.proofs.RunsOutLemmas.{gives_some}
use Rattle.ci_link.proofs.daemon.Daemon.receive.Goals as goal

pub returns-in_err-feed-in-Ok-clause-memory : goal.returns-in_err-feed-in-Ok-clause-memory
returns-in_err-feed-in-Ok-clause-memory g c = λ _.
    rw (sym c.self.view_is) (gives_some _ _ (take c.in-Ok.count c.receive.new.out) c.in-Ok.ensures.ok c.in-Ok.ensures.sent c.in-Ok.ensures.cause.kept)
