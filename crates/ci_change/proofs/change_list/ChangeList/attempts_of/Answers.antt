use Rattle.std.proofs.Common.{ap, ◌∙◌}
use Rattle.ci_change.specs.Charges.{attempts_at}
use Rattle.ci_change.specs.HandedIn.{HandedIn}
use Rattle.ci_change.specs.Register.{counted}
use Rattle.ci_change.proofs.change_list.ChangeList.attempts_of.Goals as goal

pub returns : goal.returns
returns c =
    let path = c.args.path.now in
    c.attempts_of.ensures ∙ c.self.invariant.0.attempts path ∙ ap (λ (h : HandedIn). counted (attempts_at h path)) c.self.view_is
