use Rattle.std.proofs.Common.{◌≡◌, ◌<◌, ◌≤◌, ◌*◌, length, min, take}
use Rattle.ci_pages.specs.Uses.{free_from}
use Rattle.ci_pages.proofs.uses.Uses.find.Given as goal

abbrev pub invariant-loop-block : goal.invariant-loop-block
invariant-loop-block l = record {
  so_far : l.out.items ≡ free_from (take l.stop l.self.pages.items) 0;
  within : l.stop ≤ length l.self.pages.items;
  count : length l.out.items ≤ l.wanted;
  begun : length l.out.items < l.wanted → l.stop ≡ min (512 * l.block) (length l.self.pages.items);
}
