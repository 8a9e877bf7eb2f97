use Rattle.std.proofs.Common.{◌≡◌, ◌++◌, map}
use Rattle.std.specs.Vec.Iter.{into_iter_items}
use Rattle.ci_part.specs.Covering.{uncovered}
use Rattle.ci_part.specs.Part.{lists_of}
use Rattle.ci_part.proofs.covered.add_uncovered.Given as goal

abbrev pub invariant-loop-doc : goal.invariant-loop-doc
invariant-loop-doc l =
    l.all.items ++ uncovered (map lists_of l.newer) (into_iter_items l.doc-iterator) ≡ l.fn.all.items ++ uncovered (map lists_of l.newer) l.fn.found
