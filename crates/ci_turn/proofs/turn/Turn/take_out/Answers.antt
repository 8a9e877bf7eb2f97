use Rattle.std.proofs.Common.{rules, ap, sym, ◌∙◌, List, ◌∷◌, Some, Option, ℕ}
use Rattle.atomic_table.specs.Table.{rest}
use Rattle.ci_turn.proofs.turn.Turn.take_out.Goals as goal

pub exchange-requires : goal.exchange-requires
exchange-requires g c =
    let there = c.requires.there in (
      search rules,
      (Some there.0, there.1 ∙ ap (λ (l : List (ℕ × Option g.row.V.Denot)). (0, Some there.0) ∷ l) (sym (ap rest there.1))),
    )
