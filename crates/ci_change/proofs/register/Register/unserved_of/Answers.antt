use Rattle.std.proofs.Common.{ap, sym, ◌∙◌, ℕ, map, option_to_list}
use Rattle.std.specs.Option.{option_map}
use Rattle.ci_change.specs.Pending.{kinds, with_number}
use Rattle.ci_change.specs.Register.{Kept, notice_at}
use Rattle.ci_change.specs.Rows.{numbers_at}
use Rattle.ci_change.proofs.FindLemmas.{kind_at, kinds-found}
use Rattle.ci_change.proofs.register.Register.unserved_of.Goals as goal

pub returns-in-Some : goal.returns-in-Some
returns-in-Some c =
    let number = c.latest_of-latest.result in
    ap (λ (h : Kept). kinds (with_number (numbers_at h.rows c.args.path.now).latest h.unserved)) (sym c.self.view_is)
    ∙ ap (λ (n : ℕ). kinds (with_number n (map (notice_at c.self.inside.rows.entries) c.self.inside.order.entries))) (sym c.latest_of-latest.ensures)
    ∙ kinds-found c.self.inside.rows.entries number _ c.self.invariant.0.ordered
    ∙ ap (λ o. option_to_list (option_map (kind_at number) o)) (sym c.in-Some.ensures.value)

pub returns-in-None : goal.returns-in-None
returns-in-None c =
    let number = c.latest_of-latest.result in
    ap (λ (h : Kept). kinds (with_number (numbers_at h.rows c.args.path.now).latest h.unserved)) (sym c.self.view_is)
    ∙ ap (λ (n : ℕ). kinds (with_number n (map (notice_at c.self.inside.rows.entries) c.self.inside.order.entries))) (sym c.latest_of-latest.ensures)
    ∙ kinds-found c.self.inside.rows.entries number _ c.self.invariant.0.ordered
    ∙ ap (λ o. option_to_list (option_map (kind_at number) o)) (sym c.in-None.ensures.value)
