use Rattle.std.proofs.Common.{rules}
use Rattle.ci_turn.proofs.Seating.{joins}
use Rattle.ci_turn.proofs.turn.Turn.note.Goals as goal

pub join_seat-requires : goal.join_seat-requires
join_seat-requires g c = (
  search rules,
  search rules,
  search rules,
  search rules,
  joins g.V.Stands.list g.V.Stands.author g.V.Stands.stands _ _ c.args.token.now.me.0 _ c.args.other.me.0 c.requires.first.0 c.requires.first.1 c.requires.other.0 c.requires.other.1,
)
