use Rattle.std.proofs.Common.{◌≡◌, ◌≤◌}
use Rattle.std.specs.Prelude.{◌^◌}
use Rattle.ci_turn.specs.Views.{after_miss}
use Rattle.ci_turn.proofs.turn.Turn.draw_ticket.Given as goal

abbrev pub invariant-loop : goal.invariant-loop
invariant-loop g l =
    (l.token.table_id ≡ l.initial.token.table_id) × (l.token.me ≡ (after_miss l.initial.token.me.0 l.next, l.initial.token.me.1))
    × (l.fn.from ≤ l.next) × (l.next ≤ 2 ^ 62)
