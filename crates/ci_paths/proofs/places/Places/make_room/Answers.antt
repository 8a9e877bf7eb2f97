use Rattle.std.proofs.Common.{ℕ, Option, None, ◌-◌, vec_len, replicate, arith}
use Rattle.std.proofs.lemmas.List.{take_all}
use Rattle.ci_paths.proofs.PlacesLemmas.{least_empty-append}
use Rattle.ci_paths.proofs.places.Places.make_room.Goals as goal

pub invariant_of-self-2 : goal.invariant_of-self-2
invariant_of-self-2 c =
    let places = c.self.inside.places.items in
    let room = c.max-room.result in
    let none : Option ℕ = None in
    let more = least_empty-append places (replicate (room - vec_len c.self.inside.places) none) in
    rw (c.in_ok-resize.ensures.items, take_all room places (omega arith)) (omega arith)
