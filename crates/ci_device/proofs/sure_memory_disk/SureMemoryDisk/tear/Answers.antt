use Rattle.std.proofs.Common.{◌≡◌, [], ◌∷◌, ◌++◌, map, rules}
use Rattle.ci_device.proofs.Left.{follows_same}
use Rattle.ci_device.proofs.Moments.{next_moment}
use Rattle.ci_device.proofs.sure_memory_disk.SureMemoryDisk.tear.Goals as goal

pub returns-then-not-has_room-clause-images : goal.returns-then-not-has_room-clause-images
returns-then-not-has_room-clause-images c =
    let same : c.self.inside.platter ≡ c.args.self.now.platter = search rules in
    follows_same c.args.at c.args.count c.args.self.now.platter c.self.inside.platter same

pub returns-clause-moments : goal.returns-clause-moments
returns-clause-moments c =
    let past = map (λ s. s.value) c.remember.new.past.items in
    let pushed : past ≡ c.args.self.now.past ++ c.args.self.now.platter ∷ [] = search rules in
    next_moment c.args.self.now (record { platter = c.tear.new.self; past = past; faults = c.saturating_add-self-inside.result }) pushed
