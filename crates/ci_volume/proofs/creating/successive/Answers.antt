use Rattle.std.proofs.Common.{◌+◌, ◌≡◌, ◌++◌, ◌∙◌, [], ◌∷◌, ap, sym, rules}
use Rattle.ci_volume.proofs.Ranges.{range_more}
use Rattle.ci_volume.proofs.creating.successive.Goals as goal

pub loop-step-preserved : goal.loop-step-preserved
loop-step-preserved c =
    let pushed : c.push.new.self.items ≡ c.loop-step.pages.items ++ (c.args.first + c.loop-step.step) ∷ [] = search rules in
    pushed ∙ ap (λ xs. xs ++ (c.args.first + c.loop-step.step) ∷ []) c.loop-step.invariant ∙ sym (range_more c.args.first c.loop-step.step)
