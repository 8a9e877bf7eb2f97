use Rattle.std.proofs.Common.{subst, refl}
use Rattle.std.specs.Option.{IsSome}
use Rattle.ci_documents.proofs.DocumentsLemmas.{Settles-written}
use Rattle.ci_documents.proofs.documents.settle.Goals as goal

pub returns-in-Some : goal.returns-in-Some
returns-in-Some c =
    let written = c.get_mut.follows.holds c.of.result in
    Settles-written _ _ c.args.path.now c.of.result _ c.of.ensures (written.3 (subst IsSome c.in-Some.ensures.value refl)).0
