use Rattle.ci_dialect.specs.Grammar.{negation, opened}
use Rattle.ci_query.proofs.grammar.Grammar.all.Given as goal

abbrev pub ghosts-read_list : goal.ghosts-read_list
ghosts-read_list g a = let grammar = a.one.0.now in record { rule = negation grammar.noise.now (opened grammar.noise.now grammar.depth) }
