use Rattle.std.proofs.Common.{false, arith}
use Rattle.ci_change.proofs.CountLemmas.{Tries-out}
use Rattle.ci_change.proofs.OutLemmas.{IsMarked-still, own_notices}
use Rattle.ci_change.proofs.TrialLemmas.{failed-trial}
use Rattle.ci_change.proofs.UpToDateLemmas.{IsUpToDate-tried}
use Rattle.ci_change.proofs.change_list.ChangeList.charge.Goals as goal

pub tried-requires : goal.tried-requires
tried-requires c = record { own = own_notices c.self.inside.past c.self.inside.register c.self.inside.retries c.self.invariant.0 c.args.path.now }

pub invariant_of-self : goal.invariant_of-self
invariant_of-self c =
    let trial = failed-trial c.self.inside.past c.self.inside.register c.self.inside.retries c.self.invariant.0 c.args.path.now c.args.seq in (
      IsUpToDate-tried c.self.inside.past c.self.inside.register c.tried.new.self c.self.inside.retries c.self.invariant.0 (omega arith) _ _ c.args.path.now c.args.seq false c.tried.ensures trial _ c.charged.ensures,
      IsMarked-still c.self.inside.register c.tried.new.self c.self.inside.out.items c.self.invariant.1 (Tries-out _ _ c.args.path.now c.args.seq.0 false c.self.inside.retries c.tried.ensures),
    )
