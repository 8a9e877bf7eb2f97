use Rattle.std.proofs.Common.{subst}
use Rattle.ci_segment.specs.Finding.{IsBlockOf}
use Rattle.ci_segment.proofs.SeekLemmas.{before_all}
use Rattle.ci_segment.proofs.segment.Segment.seek.Goals as goal

pub returns-then-block-eq0-clause-found : goal.returns-then-block-eq0-clause-found
returns-then-block-eq0-clause-found g c =
    before_all c.args.self.now c.args.key.now c.block_of-block.ensures.grammar (subst (λ n. IsBlockOf c.args.self.now c.args.key.now n) c.if-block-eq0.true c.block_of-block.ensures.block)
