use Rattle.std.proofs.Common.{◌≡◌, take}
use Rattle.std.specs.Option.{option_map}
use Rattle.ci_play.specs.Latest.{latest_new}
use Rattle.ci_play.proofs.latest.latest_new.Given as goal

abbrev pub invariant-loop-event : goal.invariant-loop-event
invariant-loop-event l = option_map (λ n. (n.seq, n.what)) (latest_new (take l.event-index l.events) l.path) ≡ l.found
