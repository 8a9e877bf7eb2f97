use Rattle.ci_server.proofs.BesideLemmas.{serves-beside}
use Rattle.ci_server.proofs.serve_line.serve_beside.Goals as goal

pub returns-clause-beside : goal.returns-clause-beside
returns-clause-beside g c =
    serves-beside _ _ c.args.id c.args.request.now c.serve_alone.result c.requires.other c.serve_alone.ensures.ok c.serve_alone.ensures.err
