use Rattle.std.proofs.Common.{◌*◌, arith}
use Rattle.ci_volume.proofs.Spelled.{part_cut}
use Rattle.ci_volume.proofs.writing.content_at.Goals as goal

pub returns-clause-part : goal.returns-clause-part
returns-clause-part c = part_cut c.args.bytes.now (4092 * c.args.at) c.min-from.result c.min-end.result (omega arith) (omega arith)
