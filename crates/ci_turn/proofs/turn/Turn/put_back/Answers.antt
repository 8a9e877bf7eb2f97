use Rattle.std.proofs.Common.{rules, ap, ◌∙◌, List, ◌∷◌, Some, Option, ℕ}
use Rattle.atomic_table.specs.Table.{rest}
use Rattle.ci_turn.proofs.Passing.{passes_at}
use Rattle.ci_turn.proofs.turn.Turn.put_back.Goals as goal

pub store-requires : goal.store-requires
store-requires g c =
    let v = c.args.token.now.me.0 in (
      search rules,
      search rules,
      passes_at g.V.Stands.list g.V.Stands.author g.V.Stands.stands _ _ _ c.exchange-before.new.seat.me v c.args.value c.args.next
          (c.exchange-before.ensures.3 ∙ ap (λ (l : List (ℕ × Option g.row.V.Denot)). (v, (0, Some c.args.value) ∷ rest l)) c.requires.held.1)
          c.requires.next c.requires.held.0 c.requires.lives c.requires.fixed c.requires.adds,
    )
