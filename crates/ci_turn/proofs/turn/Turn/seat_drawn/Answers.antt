use Rattle.std.proofs.Common.{rules}
use Rattle.ci_turn.proofs.Seating.{splits}
use Rattle.ci_turn.proofs.turn.Turn.seat_drawn.Goals as goal

pub split_seat-requires : goal.split_seat-requires
split_seat-requires g c = (
  search rules,
  search rules,
  splits g.V.Stands.list g.V.Stands.author g.V.Stands.stands _ _ c.args.token.now.me.0 c.requires.first.0 c.requires.first.1 c.requires.drawn,
)
