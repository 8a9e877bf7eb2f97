use Rattle.std.proofs.Common.{◌≡◌, ◌-◌, ◌∙◌, ap, take, arith}
use Rattle.ci_words.proofs.FrontLemmas.{take-last_boundary}
use Rattle.ci_words.proofs.front.cut.Goals as goal

pub returns-clause-front : goal.returns-clause-front
returns-clause-front c =
    let last = c.floor_char_boundary.ensures in
    let end = c.floor_char_boundary.result in
    let same : end - 0 ≡ end = omega arith in
    c.range.ensures.value
    ∙ ap (λ n. take n c.args.text.now) same
    ∙ take-last_boundary _ _ _ c.utf8.text last.bound last.boundary last.nearest
