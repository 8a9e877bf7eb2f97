use Rattle.ci_turn.proofs.Ends.{opens}
use Rattle.ci_turn.proofs.turn.Turn.opened.Goals as goal

pub new-requires : goal.new-requires
new-requires g c =
    rw (c.of.ensures, c.in_ok-slots.ensures.ok)
    (opens g.V.Stands.list g.V.Stands.author g.V.Stands.stands _ c.args.value c.args.first c.requires.first c.requires.fixed c.requires.empty)
