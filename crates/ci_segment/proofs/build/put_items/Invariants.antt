use Rattle.std.proofs.Common.{◌≡◌, ◌^◌, ◌<◌, All, map, take}
use Rattle.std.specs.List.{range_with_len}
use Rattle.ci_segment.specs.Segment.{blocks, items_bytes, offset}
use Rattle.ci_segment.proofs.BuildLemmas.{IsWritten}
use Rattle.ci_segment.proofs.build.put_items.Given as goal

abbrev pub invariant-loop-at : goal.invariant-loop-at
invariant-loop-at l = record {
  bytes : l.items.items ≡ items_bytes (take l.at l.keys);
  noted : l.table.items ≡ map (offset l.keys) (range_with_len 0 (blocks l.at));
  near : All (λ o. o < 2 ^ 32) l.table.items;
  written : All IsWritten (take l.at l.keys);
}
