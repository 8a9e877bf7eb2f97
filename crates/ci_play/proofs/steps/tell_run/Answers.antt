use Rattle.std.proofs.Common.{subst}
use Rattle.ci_journal.specs.Step.{Run}
use Rattle.ci_journal.proofs.LawLemmas.{AllAnswer-run}
use Rattle.ci_play.proofs.ApartLemmas.{AreApart-run}
use Rattle.ci_play.proofs.steps.tell_run.Goals as goal

pub returns-clause-answers : goal.returns-clause-answers
returns-clause-answers g c =
    AllAnswer-run c.args.catalog.now.terms c.args.catalog.now.sheet.events (subst (Run c.args.catalog.now.terms) c.journal-journal.ensures.events c.journal-journal.ensures.run)

pub returns-clause-apart : goal.returns-clause-apart
returns-clause-apart g c =
    AreApart-run c.args.catalog.now.terms c.args.catalog.now.sheet.events (subst (Run c.args.catalog.now.terms) c.journal-journal.ensures.events c.journal-journal.ensures.run)
