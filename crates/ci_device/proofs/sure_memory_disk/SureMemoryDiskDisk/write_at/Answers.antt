use Rattle.std.proofs.Common.{◌≡◌, [], ◌∷◌, ◌++◌, map, rules}
use Rattle.ci_device.proofs.Moments.{next_moment}
use Rattle.ci_device.proofs.sure_memory_disk.SureMemoryDiskDisk.write_at.Goals as goal

pub returns-clause-moments : goal.returns-clause-moments
returns-clause-moments c =
    let past = map (λ s. s.value) c.remember.new.past.items in
    let pushed : past ≡ c.args.self.now.past ++ c.args.self.now.platter ∷ [] = search rules in
    next_moment c.args.self.now (record { platter = c.write.new.self; past = past; faults = c.self.inside.faults }) pushed
