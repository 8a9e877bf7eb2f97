-- Which keys begin as another one, as a test. The private functions of this crate cite it.
use Rattle.std.specs.Prelude.{◌==◌, ◌&&◌, Bool, List, map, nat_eq}
use Rattle.std.specs.List.{filter, starts_with}
use Rattle.ci_keys.specs.declared.key.Key.{Key}
use Rattle.ci_segment.specs.Segment.{Item}

-- the key is in the first one's property, and its word begins with the first one's
abbrev pub begins : Key → Key → Bool
begins first key = (key.property.0 == first.property.0) && starts_with nat_eq key.word first.word

-- the keys that begin so
abbrev pub beginning : Key → List Item → List Key
beginning first items = map (λ item. item.0) (filter (λ item. begins first item.0) items)
