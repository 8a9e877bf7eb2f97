-- The places of a word in one document.
use Rattle.std.specs.Prelude.{◌≢◌, List, []}
use Rattle.std.specs.Ordering.{nat_cmp}
use Rattle.ci_base.specs.declared.numbers.Place.{Place}
use Rattle.ci_keys.specs.Order.{Ascends}

-- at least one place, and each is before all later ones
pub record IsPlaces (places : List Place) : Type 0 where
  pub some : places ≢ []
  pub ascend : Ascends (λ place. place.0) nat_cmp places
