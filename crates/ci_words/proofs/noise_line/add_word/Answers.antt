use Rattle.std.proofs.Common.{◌≡◌, arith, [], ◌++◌, sym, ap, ◌∙◌, append-nil}
use Rattle.std.proofs.lemmas.Bool.Decides.{nat_tests}
use Rattle.ci_words.specs.Words.{words}
use Rattle.ci_words.proofs.NoiseLemmas.{nil_of_length, words-nil}
use Rattle.ci_words.proofs.noise_line.add_word.Goals as goal

pub returns-then-is_empty-clause-added : goal.returns-then-is_empty-clause-added
returns-then-is_empty-clause-added c =
    let empty : c.args.line.now ≡ [] = nil_of_length c.args.line.now (grind (arith, nat_tests)) in
    sym (ap (λ l. c.args.list.now.items ++ words l) empty ∙ ap (λ l. c.args.list.now.items ++ l) words-nil ∙ append-nil c.args.list.now.items)
