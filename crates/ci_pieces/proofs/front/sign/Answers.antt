use Rattle.std.proofs.Common.{arith}
use Rattle.ci_pieces.proofs.FrontLemmas.{boundary-behind}
use Rattle.ci_pieces.proofs.front.sign.Goals as goal

pub range_from-requires : goal.range_from-requires
range_from-requires c some =
    boundary-behind c.args.text.now _ c.utf8.text (omega arith) (λ k below. c.requires.ascii k (omega arith))
