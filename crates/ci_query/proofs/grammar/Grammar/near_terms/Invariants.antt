use Rattle.ci_dialect.specs.Grammar.{near_operand, opened}
use Rattle.ci_query.proofs.grammar.Grammar.near_terms.Given as goal

abbrev pub ghosts-read_list : goal.ghosts-read_list
ghosts-read_list g a = let grammar = a.one.0.now in record { rule = near_operand grammar.noise.now (opened grammar.noise.now grammar.depth) a.one.1.now }
