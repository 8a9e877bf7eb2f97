use Rattle.std.proofs.Common.{rules}
use Rattle.std.specs.Ordering.{is_lt}
use Rattle.std.proofs.lemmas.List.Sorted.{IsPartitionPoint-from_clause}
use Rattle.ci_keys.specs.Key.{key_cmp}
use Rattle.ci_segment.specs.Segment.{Item}
use Rattle.ci_part.proofs.RangeLemmas.{parted, place_is}
use Rattle.ci_part.proofs.range.place_of.Goals as goal

pub returns : goal.returns
returns c =
    let items = c.args.items.now in
    let key = c.args.key.now in
    place_is items key c.partition_point.result c.partition_point.ensures.bound
    (IsPartitionPoint-from_clause (λ (item : Item). is_lt (key_cmp item.0 key)) items c.partition_point.result c.partition_point.ensures.partitioned (parted items c.requires key) (λ a r f called. search rules))
