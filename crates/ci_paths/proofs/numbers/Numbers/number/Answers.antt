use Rattle.std.proofs.Common.{arith, ap, subst, length}
use Rattle.ci_paths.specs.Numbering.{IsLeastFree, Numbering}
use Rattle.ci_paths.proofs.PlacesLemmas.{least_empty-count, least_empty-none}
use Rattle.ci_paths.proofs.Indexed.{IsLeastFree-least, path_of-none}
use Rattle.ci_paths.proofs.numbers.Numbers.number.Goals as goal

pub overflow_cast-doc : goal.overflow_cast-doc
overflow_cast-doc c =
    omega (arith, c.least_free.ensures.free, least_empty-count c.self.inside.places, c.self.invariant.count, c.len.ensures, ap (λ (n : Numbering). length n.numbered) c.self.view_is)

pub keep-requires-clause-bound : goal.keep-requires-clause-bound
keep-requires-clause-bound c =
    omega (arith, c.least_free.ensures.free, least_empty-count c.self.inside.places, c.self.invariant.count, c.len.ensures, ap (λ (n : Numbering). length n.numbered) c.self.view_is)

pub keep-requires-clause-number : goal.keep-requires-clause-number
keep-requires-clause-number c = rw c.least_free.ensures.free (path_of-none c.self.inside.docs c.self.inside.places c.self.invariant _ (least_empty-none c.self.inside.places))

pub returns-clause-least : goal.returns-clause-least
returns-clause-least c new =
    subst (λ (n : Numbering). IsLeastFree n.numbered c.least_free.result) c.self.view_is (rw c.least_free.ensures.free (IsLeastFree-least c.self.inside.docs c.self.inside.places c.self.invariant))
