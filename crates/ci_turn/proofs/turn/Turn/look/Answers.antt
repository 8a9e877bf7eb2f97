use Rattle.std.proofs.Common.{rules}
use Rattle.ci_turn.proofs.Tickets.{looks}
use Rattle.ci_turn.proofs.turn.Turn.look.Goals as goal

pub load-requires : goal.load-requires
load-requires g c = let v = c.args.token.now.me in (
  search rules,
  search rules,
  looks g.V.Stands.list g.V.Stands.author g.V.Stands.stands _ _ _ v.0 v.1 c.requires.queued c.requires.free c.requires.lives c.requires.empty,
)
