use Rattle.std.proofs.Common.{refl}
use Rattle.ci_change.proofs.CountLemmas.{Puts-out}
use Rattle.ci_change.proofs.OutLemmas.{IsMarked-still, own_notices}
use Rattle.ci_change.proofs.UpToDateLemmas.{IsUpToDate-served}
use Rattle.ci_change.proofs.change_list.ChangeList.served.Goals as goal

pub serve-requires : goal.serve-requires
serve-requires c = record { own = own_notices c.self.inside.past c.self.inside.register c.self.inside.retries c.self.invariant.0 c.args.path.now }

pub invariant_of-self-2 : goal.invariant_of-self-2
invariant_of-self-2 c = (
  IsUpToDate-served c.self.inside.past c.self.inside.register c.serve.new.self c.self.inside.retries c.self.invariant.0 c.args.path.now c.args.seq c.in_ok-serve.ensures.ok _ c.served.ensures,
  IsMarked-still c.self.inside.register c.serve.new.self c.self.inside.out.items c.self.invariant.1 (Puts-out _ _ _ _ c.in_ok-serve.ensures.ok.rows refl),
)
