-- The order of keys.
use Rattle.std.proofs.Common.{◌≡◌, refl}
use Rattle.std.specs.declared.cmp.Ordering.TheVariants.{Less, Equal, Greater}
use Rattle.std.specs.Cmp.{IsTotalOrder, nat_cmp_total}
use Rattle.std.specs.Cmp.Lexicographic.{nat_list_cmp_total, slice_cmp}
use Rattle.std.specs.FinMap.{IsAntisymmetric, nat_cmp-IsAntisymmetric, slice_cmp-IsAntisymmetric}
use Rattle.std.specs.Ordering.{nat_cmp, ordering_then}
use Rattle.std.proofs.lemmas.Cmp.{on_total, then_total}
use Rattle.ci_keys.specs.Key.{key_cmp}

pub key_cmp_total : IsTotalOrder key_cmp
key_cmp_total = then_total (on_total (λ k. k.property.0) nat_cmp_total) (on_total (λ k. k.word) nat_list_cmp_total)

-- only equal keys tie
pub key_cmp-IsAntisymmetric : IsAntisymmetric key_cmp
key_cmp-IsAntisymmetric x y tied =
    elim (nat_cmp x.property.0 y.property.0) as (λ r. nat_cmp x.property.0 y.property.0 ≡ r → ordering_then r (slice_cmp nat_cmp x.word y.word) ≡ Equal → x ≡ y) [
      | Less ↦ λ p e. cc
      | Equal ↦ λ p e i. record { property = record { 0 = nat_cmp-IsAntisymmetric x.property.0 y.property.0 p i }; word = slice_cmp-IsAntisymmetric nat_cmp-IsAntisymmetric x.word y.word e i }
      | Greater ↦ λ p e. cc
    ] refl tied
