use Rattle.std.proofs.Common.{arith}
use Rattle.ci_change.proofs.CountLemmas.{parts}
use Rattle.ci_change.proofs.register.Register.free.Goals as goal

pub overflow_sub-result : goal.overflow_sub-result
overflow_sub-result c =
    let both = parts _ c.args.self.now _ _ _ _ c.self.view_is c.self.invariant.2 c.len.ensures.len in omega (arith, both)

pub returns : goal.returns
returns c =
    let both = parts _ c.args.self.now _ _ _ _ c.self.view_is c.self.invariant.2 c.len.ensures.len in omega (arith, both)
