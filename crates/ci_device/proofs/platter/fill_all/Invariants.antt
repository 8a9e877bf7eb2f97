use Rattle.std.proofs.Common.{take, reverse}
use Rattle.ci_device.specs.Memory.{FilledFrom}
use Rattle.ci_device.proofs.platter.fill_all.Given as goal

abbrev pub invariant-loop-write : goal.invariant-loop-write
invariant-loop-write l = FilledFrom l.byte l.synced (reverse (take l.write-index l.writes)) l.image.items
