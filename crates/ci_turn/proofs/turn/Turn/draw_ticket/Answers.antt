use Rattle.std.proofs.Common.{ℕ, le_refl, refl, sym, ap}
use Rattle.ci_turn.specs.Views.{after_miss}
use Rattle.ci_turn.proofs.turn.Turn.draw_ticket.Goals as goal

pub loop-init : goal.loop-init
loop-init g c =
    let v = c.args.token.now.me in
    (refl, ap (λ (t : ℕ). (after_miss v.0 t, v.1)) (sym c.requires.from.0), le_refl c.args.from, c.requires.from.1)
