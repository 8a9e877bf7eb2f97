use Rattle.std.proofs.Common.{rules}
use Rattle.ci_turn.proofs.Seating.{draws_number}
use Rattle.ci_turn.proofs.turn.Turn.draw_number.Goals as goal

pub fetch_add-requires : goal.fetch_add-requires
fetch_add-requires g c = let v = c.args.token.now.me in (
  search rules,
  search rules,
  draws_number g.V.Stands.list g.V.Stands.author g.V.Stands.stands _ _ _ v.0 v.1 c.requires.first.0 c.requires.first.1 c.requires.room,
)
