use Rattle.ci_server.proofs.DocumentLemmas.{noted-here, unnoted-here}
use Rattle.ci_server.proofs.serve_reply.note_here.Goals as goal

pub returns-clause-ok : goal.returns-clause-ok
returns-clause-ok g c = noted-here _ _ c.args.path.now c.args.what c.requires c.note.ensures.fixed c.note.result c.note.ensures.seq c.note.ensures.step c.note.ensures.crowded

pub returns-clause-err : goal.returns-clause-err
returns-clause-err g c = unnoted-here _ _ c.args.path.now c.args.what c.requires c.note.ensures.fixed c.note.result c.note.ensures.step c.note.ensures.crowded
