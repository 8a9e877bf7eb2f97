use Rattle.std.proofs.Common.{rules, not, ◌==◌}
use Rattle.std.proofs.lemmas.Fn.{filter_same}
use Rattle.ci_holdings.proofs.answering.close_question.Goals as goal

pub returns : goal.returns
returns c = filter_same _ (λ q. not (q.id == c.args.id)) _ (λ q r f call. search rules) _ _ c.retain.ensures.filtered
