use Rattle.std.proofs.Common.{◌≡◌, drop, map}
use Rattle.ci_part.specs.Covering.{is_covered}
use Rattle.ci_part.specs.Part.{lists_of}
use Rattle.ci_part.proofs.covered.is_covered.Given as goal

abbrev pub invariant-loop-part : goal.invariant-loop-part
invariant-loop-part l = is_covered (map lists_of (drop l.part-index l.parts)) l.doc ≡ is_covered (map lists_of l.parts) l.doc
