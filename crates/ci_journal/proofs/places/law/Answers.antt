use Rattle.ci_journal.proofs.ChainLemmas.{Chain-run}
use Rattle.ci_journal.proofs.LawLemmas.{Chain-take, May-at, AllAnswer-run}
use Rattle.ci_journal.proofs.places.law.Goals as goal

pub returns-clause-each : goal.returns-clause-each
returns-clause-each c terms journal place event run found = May-at terms journal (Chain-run terms journal run) place event found

pub returns-clause-before : goal.returns-clause-before
returns-clause-before c terms journal place run = Chain-take terms journal (Chain-run terms journal run) place

pub returns-clause-answers : goal.returns-clause-answers
returns-clause-answers c terms journal run = AllAnswer-run terms journal run
