use Rattle.std.proofs.Common.{rules}
use Rattle.ci_turn.proofs.Tickets.{draws_ticket}
use Rattle.ci_turn.proofs.turn.Turn.next_ticket.Goals as goal

pub compare_exchange-requires : goal.compare_exchange-requires
compare_exchange-requires g c = let v = c.args.token.now.me in (
  search rules,
  search rules,
  draws_ticket g.V.Stands.list g.V.Stands.author g.V.Stands.stands _ _ _ v.0 v.1 c.args.next c.requires.free.0 c.requires.free.1 c.requires.next,
)
