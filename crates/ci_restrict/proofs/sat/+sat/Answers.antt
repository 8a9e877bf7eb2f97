use Rattle.std.proofs.Common.{not, sym, ap, ◌∙◌}
use Rattle.std.specs.List.{list_all, list_any}
use Rattle.std.proofs.lemmas.Result.{IfOk-weaker}
use Rattle.ci_dialect.specs.Sat.{sat}
use Rattle.ci_dialect.proofs.TreeLemmas.{sat-and, sat-not, sat-or}
use Rattle.ci_restrict.proofs.sat.+sat.Goals as goal

pub satisfies-returns-in-And : goal.satisfies-returns-in-And
satisfies-returns-in-And t c =
    let path = c.args.path.now in
    let entry = c.args.entry.now in
    rw c.in-And.is
    (IfOk-weaker c.satisfies_all.result _ _ (λ b is. is ∙ ap (list_all (λ r. sat r path entry)) c.as_slice-in-And.ensures ∙ sym (sat-and path entry c.in-And.all)) c.satisfies_all.ensures)

pub satisfies-returns-in-Or : goal.satisfies-returns-in-Or
satisfies-returns-in-Or t c =
    let path = c.args.path.now in
    let entry = c.args.entry.now in
    rw c.in-Or.is
    (IfOk-weaker c.satisfies_any.result _ _ (λ b is. is ∙ ap (list_any (λ r. sat r path entry)) c.as_slice-in-Or.ensures ∙ sym (sat-or path entry c.in-Or.any)) c.satisfies_any.ensures)

pub satisfies-returns-in_ok-holds-in-Not : goal.satisfies-returns-in_ok-holds-in-Not
satisfies-returns-in_ok-holds-in-Not t c =
    let path = c.args.path.now in
    let entry = c.args.entry.now in
    rw c.in-Not.is (ap not (c.in_ok-holds-in-Not.ensures ∙ ap (λ r. sat r path entry) c.get.ensures) ∙ sym (sat-not c.in-Not.one path entry))
