use Rattle.std.proofs.Common.{◌≡◌, ◌^◌, ◌<◌, ◌++◌, All, None, length, take}
use Rattle.ci_base.specs.Varint.{varint}
use Rattle.ci_segment.specs.Chain.{chained, reached}
use Rattle.ci_segment.specs.Postings.{after_place, place_bytes}
use Rattle.ci_segment.proofs.put.put_list.Given as goal

abbrev pub invariant-loop-place : goal.invariant-loop-place
invariant-loop-place l = record {
  bytes : l.out.items ≡ l.fn.out.items ++ (varint (length l.places) ++ chained place_bytes after_place None (take l.place-index l.places));
  before : l.before ≡ reached after_place None (take l.place-index l.places);
  small : All (λ place. place.0 < 2 ^ 32) (take l.place-index l.places);
}
