use Rattle.std.proofs.Common.{Some, IfSome, ◌≡◌, ◌∙◌, subst}
use Rattle.ci_paths.specs.Numbering.{Numbering, path_of}
use Rattle.ci_paths.proofs.Indexed.{owned}
use Rattle.ci_paths.proofs.numbers.Numbers.find.Goals as goal

pub returns-clause-own : goal.returns-clause-own
returns-clause-own c =
    subst (λ (n : Numbering). IfSome c.copied.result (λ doc. path_of n.numbered doc.0 ≡ Some c.args.path.now)) c.self.view_is
    (owned c.self.inside.docs c.self.inside.places c.self.invariant c.args.path.now c.copied.result (c.copied.ensures ∙ c.get.ensures))
