use Rattle.std.proofs.Common.{ap, sym, ◌∙◌, ℕ, List}
use Rattle.ci_change.specs.declared.notice.Notice.{Notice}
use Rattle.ci_change.specs.HandedIn.{HandedIn}
use Rattle.ci_change.specs.Pending.{kinds, latest_number, unserved, with_number, with_path}
use Rattle.ci_change.proofs.UnservedLemmas.{unserved-of_path}
use Rattle.ci_change.proofs.change_list.ChangeList.unserved_of.Goals as goal

pub returns : goal.returns
returns c =
    let path = c.args.path.now in
    let latest = latest_number c.self.inside.past.notices path in
    ap (λ (h : HandedIn). kinds (with_path path (unserved h))) (sym c.self.view_is)
    ∙ ap kinds (unserved-of_path _ _ path c.self.invariant.0.ascending)
    ∙ ap (λ (ns : List Notice). kinds (with_number latest ns)) (sym c.self.invariant.0.unserved)
    ∙ ap (λ (n : ℕ). kinds (with_number n c.self.inside.register.unserved)) (sym (c.self.invariant.0.latest path))
    ∙ c.unserved_of.ensures
