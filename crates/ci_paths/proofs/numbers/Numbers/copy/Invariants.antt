use Rattle.std.proofs.Common.{◌≡◌, take}
use Rattle.ci_paths.proofs.numbers.Numbers.copy.Given as goal

-- the paths before this place are numbered as they were
abbrev pub invariant-loop-path : goal.invariant-loop-path
invariant-loop-path l = record {
  numbered : l.copied.numbered ≡ take l.path-index l.self.numbered;
  limit : l.copied.limit ≡ l.self.limit;
}
