use Rattle.std.proofs.Common.{ℕ, List, Some, get_or, ap, sym, ◌∙◌}
use Rattle.std.proofs.lemmas.Option.{get_or_from_slice_get}
use Rattle.ci_base.specs.declared.numbers.DocNo.{DocNo}
use Rattle.ci_paths.specs.Numbering.{Numbering, path_of}
use Rattle.ci_paths.proofs.Indexed.{path_of-none, path_of-place}
use Rattle.ci_paths.proofs.numbers.Numbers.path.Goals as goal

pub returns-in-Some-clause-path : goal.returns-in-Some-clause-path
returns-in-Some-clause-path c =
    let numbered = c.self.inside.docs in
    let (path, there, own) = path_of-place numbered c.self.inside.places c.self.invariant c.args.doc.0 c.in-Some.place (sym c.in-Some.ensures) in
    let row = c.index-items-place.result in
    let same = ap (λ l. get_or l c.in-Some.place row) c.items.ensures ∙ get_or_from_slice_get numbered c.in-Some.place _ row there in
    ap (λ (e : List ℕ × DocNo). Some e.0) same ∙ sym own ∙ ap (λ (n : Numbering). path_of n.numbered c.args.doc.0) c.self.view_is

pub returns-in-None-clause-path : goal.returns-in-None-clause-path
returns-in-None-clause-path c =
    sym (path_of-none c.self.inside.docs c.self.inside.places c.self.invariant c.args.doc.0 (sym c.in-None.ensures))
    ∙ ap (λ (n : Numbering). path_of n.numbered c.args.doc.0) c.self.view_is
