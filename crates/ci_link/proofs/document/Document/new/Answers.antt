use Rattle.std.proofs.Common.{refl}
use Rattle.ci_link.specs.Reading.{Opening}
use Rattle.ci_link.proofs.document.Document.new.Goals as goal

pub returns : goal.returns
returns c path = record { begun = Opening; chunks = refl; size = refl; last = λ id. refl; pieces = (refl, c.new.ensures) }
