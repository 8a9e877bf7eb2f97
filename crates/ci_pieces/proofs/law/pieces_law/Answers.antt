use Rattle.ci_pieces.proofs.LaidLemmas.{AreLaid-pieces}
use Rattle.ci_pieces.proofs.law.pieces_law.Goals as goal

pub returns : goal.returns
returns c text = AreLaid-pieces text
