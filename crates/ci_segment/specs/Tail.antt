-- What the look-ups stand on: the bytes of the keys from a place on.
use Rattle.std.specs.Prelude.{ℕ, List, drop}
use Rattle.ci_segment.specs.Chain.{chained}
use Rattle.ci_segment.specs.Segment.{Item, after_item, item_bytes, spot_at}

-- the keys from a place on, one behind the other
unfoldable pub tail_at : List Item → ℕ → List ℕ
tail_at items place = chained item_bytes after_item (spot_at items place) (drop place items)
