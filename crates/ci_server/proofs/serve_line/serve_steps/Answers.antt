use Rattle.std.proofs.Common.{◌∙◌}
use Rattle.ci_worker.proofs.KeepsLemmas.{Holds-goes, Keeps-goes}
use Rattle.ci_server.proofs.BesideLemmas.{OnOk-given, out-beside}
use Rattle.ci_server.proofs.serve_line.serve_steps.Goals as goal

pub returns-clause-back : goal.returns-clause-back
returns-clause-back g c =
    OnOk-given c.serve_beside.result
    (out-beside c.args.catalog.now.sheet.events c.serve_beside.new.catalog.sheet.events c.serve_beside.ensures.beside ∙ c.requires.asked.idle.back)

pub returns-clause-holds : goal.returns-clause-holds
returns-clause-holds g c =
    OnOk-given c.serve_beside.result
    (Holds-goes c.args.catalog.now.sheet.events c.serve_beside.new.catalog.sheet.events c.serve_beside.ensures.beside c.args.worker.now 0 c.requires.holds)

pub returns-clause-keeps : goal.returns-clause-keeps
returns-clause-keeps g c = λ first keeps.
    Keeps-goes c.args.catalog.now.sheet.events c.serve_beside.new.catalog.sheet.events c.serve_beside.ensures.beside first c.args.worker.now keeps
