use Rattle.ci_query.proofs.parsing.+opened.Given as goal

abbrev pub decreases-opened : goal.decreases-opened
decreases-opened l = l.depth
