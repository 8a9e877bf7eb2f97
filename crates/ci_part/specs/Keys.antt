-- The keys of segments that follow one another.
use Rattle.std.specs.Prelude.{List}
use Rattle.std.specs.List.{flat_map}
use Rattle.ci_segment.specs.Segment.{Item}

-- the keys of all segments
abbrev pub all_keys : List (List Item) → List Item
all_keys segments = flat_map (λ keys. keys) segments
