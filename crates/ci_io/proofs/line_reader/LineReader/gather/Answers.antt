use Rattle.std.proofs.Common.{sym}
use Rattle.ci_io.proofs.TakenLines.{Gathers-none}
use Rattle.ci_io.proofs.line_reader.LineReader.gather.Goals as goal

pub returns-in_err-count-clause-gathers : goal.returns-in_err-count-clause-gathers
returns-in_err-count-clause-gathers g c = rw (sym c.self.view_is) (Gathers-none _ _ c.in_err-count.ensures.err c.in_err-count.ensures.kept)
