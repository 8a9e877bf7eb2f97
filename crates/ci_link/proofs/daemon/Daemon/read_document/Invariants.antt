use Rattle.ci_chunk.specs.Talk.{Talk}
use Rattle.ci_link.specs.Document.{Stands, left}
use Rattle.ci_link.specs.Line.{Exchanges}
use Rattle.ci_link.proofs.daemon.Daemon.read_document.Given as goal

-- the exchanges that were had led the reader to where it stands
abbrev pub invariant-loop-document : goal.invariant-loop-document
invariant-loop-document g l = (talk : Talk) × Stands l.path l.document talk × Exchanges l.fn.self l.self talk

abbrev pub decreases-loop-document : goal.decreases-loop-document
decreases-loop-document g l = left l.document
