use Rattle.std.proofs.Common.{ap}
use Rattle.ci_wire.proofs.StreamLemmas.{begins_frame}
use Rattle.ci_wire.proofs.frames.Frames.next.Goals as goal

pub returns-in-Ok-Some-clause-some : goal.returns-in-Ok-Some-clause-some
returns-in-Ok-Some-clause-some c =
    let found = rw c.in-Ok-Some.field-0-is at c.in-Ok-Some.ensures.frame in
    begins_frame _ _ c.held.result.now _ _ c.in-Ok-Some.frame c.held.ensures (ap (λ f. f.bytes) c.self.view_is) found.0 found.1
