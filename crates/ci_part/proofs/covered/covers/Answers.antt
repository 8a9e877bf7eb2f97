use Rattle.std.proofs.Common.{refl}
use Rattle.ci_part.specs.Part.{lists_of}
use Rattle.ci_part.proofs.CoverLemmas.{covers_found, covers_none}
use Rattle.ci_part.proofs.covered.covers.Goals as goal

pub returns-in-Some : goal.returns-in-Some
returns-in-Some c = covers_found (lists_of c.args.part.now) c.args.doc c.in-Some.field-0 c.in-Some.ensures.found

pub returns-in-None : goal.returns-in-None
returns-in-None c = covers_none (lists_of c.args.part.now) c.args.doc (c.in-None.ensures.none refl)
