use Rattle.std.proofs.Common.{◌++◌, ap, sym, ◌∙◌, take, drop}
use Rattle.std.proofs.Math.Seq.{take-add}
use Rattle.ci_link.proofs.memory_link.MemoryLinkLink.receive.Goals as goal

pub returns-clause-ok : goal.returns-clause-ok
returns-clause-ok c =
    let n = c.give_front-count.result in
    let left = c.give_front-count.ensures.front ∙ ap (λ l. take n l) (c.split_at.ensures.back ∙ ap (λ l. drop c.self.inside.given l) c.items.ensures) in
    take-add c.self.inside.given n c.self.inside.answers
    ∙ ap (λ l. take c.self.inside.given c.self.inside.answers ++ l) (sym left)
    ∙ ap (λ l. l ++ take n c.give_front-count.new.out) (ap (λ s. s.given) c.self.view_is)
