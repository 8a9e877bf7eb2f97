use Rattle.std.proofs.Common.{◌∙◌, subst, refl, ap, sym, None}
use Rattle.std.specs.Option.{IsSome, option_copied_mut}
use Rattle.ci_documents.specs.Documents.{Settles, entry_in}
use Rattle.ci_documents.proofs.DocumentsLemmas.{Settles-written, Settles-absent}
use Rattle.ci_documents.proofs.documents.take_away.Goals as goal

pub returns-in-Some : goal.returns-in-Some
returns-in-Some c =
    let written = c.get_mut.follows.holds c.empty.result in
    Settles-written _ _ c.args.path.now c.empty.result _ c.empty.ensures (written.3 (subst IsSome c.in-Some.ensures.value refl)).0

pub returns-in_default : goal.returns-in_default
returns-in_default c =
    let none = sym c.get_mut.ensures.value ∙ ap option_copied_mut c.in_default.is in
    let absent = ap entry_in none in
    subst (λ (after : _). Settles c.args.documents.now.entries after.entries c.args.path.now None) (sym c.get_mut.follows.holds-at-none)
    (Settles-absent c.args.documents.now.entries c.args.path.now absent)
