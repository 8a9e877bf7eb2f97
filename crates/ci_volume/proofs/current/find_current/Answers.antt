use Rattle.std.proofs.Common.{ℕ, Bool, IsTrue, List, MatchOption, sym, subst}
use Rattle.ci_volume.specs.Found.{HasNone, IsTold}
use Rattle.ci_volume.proofs.current.find_current.Goals as goal

pub returns-in_ok-told-in-Some-clause-ok : goal.returns-in_ok-told-in-Some-clause-ok
returns-in_ok-told-in-Some-clause-ok g c honest =
    let stays = c.read_head.ensures.stays in
    let told = c.in_ok-told-in-Some.told in
    let there = c.in_ok-told-in-Some.ensures.ok (subst (λ (b : Bool). IsTrue b) (sym stays.honesty) honest) in
    subst (λ (image : List ℕ). MatchOption told (HasNone image) (IsTold image)) stays.bytes there
