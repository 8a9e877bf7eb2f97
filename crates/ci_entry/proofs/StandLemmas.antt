-- Where words stand, in order.
use Rattle.std.proofs.Common.{◌≡◌, refl}
use Rattle.std.specs.declared.cmp.Ordering.TheVariants.{Less, Equal, Greater}
use Rattle.std.specs.Cmp.{IsTotalOrder}
use Rattle.std.specs.FinMap.{IsAntisymmetric, nat_cmp-IsAntisymmetric}
use Rattle.std.specs.Ordering.{nat_cmp, ordering_then}
use Rattle.std.proofs.lemmas.Cmp.{nat_cmp_total, on_total, then_total}
use Rattle.ci_base.specs.declared.numbers.Place.{Place}
use Rattle.ci_keys.specs.declared.key.Key.{Key}
use Rattle.ci_keys.specs.Key.{key_cmp}
use Rattle.ci_keys.proofs.Keys.{key_cmp_total, key_cmp-IsAntisymmetric}
use Rattle.ci_entry.specs.Words.{stand_cmp}

pub stand_cmp_total : IsTotalOrder stand_cmp
stand_cmp_total = then_total (on_total (λ (stand : Key × Place). stand.0) key_cmp_total) (on_total (λ (stand : Key × Place). stand.1.0) nat_cmp_total)

-- only equal stands tie
pub stand_cmp-IsAntisymmetric : IsAntisymmetric stand_cmp
stand_cmp-IsAntisymmetric x y tied =
    elim (key_cmp x.0 y.0) as (λ r. key_cmp x.0 y.0 ≡ r → ordering_then r (nat_cmp x.1.0 y.1.0) ≡ Equal → x ≡ y) [
      | Less ↦ λ p e. cc
      | Equal ↦ λ p e i. (key_cmp-IsAntisymmetric x.0 y.0 p i, record { 0 = nat_cmp-IsAntisymmetric x.1.0 y.1.0 e i })
      | Greater ↦ λ p e. cc
    ] refl tied
