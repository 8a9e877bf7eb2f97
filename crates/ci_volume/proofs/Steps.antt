-- What each step of a change of generation hands to the next.
use Rattle.std.proofs.Common.{ℕ, ◌-◌, List, false, sym, subst}
use Rattle.ci_device.specs.Images.{Only}
use Rattle.ci_volume.specs.declared.slot.Slot.{Slot}
use Rattle.ci_volume.specs.Layout.{IsShut}
use Rattle.ci_volume.specs.Steps.{EachLeft, Stands, StandsBeside}

module _ (images : List ℕ → Type 0) (seen : List ℕ) (only : Only seen images) where
  -- what was made stable has what its bytes have
  pub each_of : (P : List ℕ → Type 0) → P seen → EachLeft images P
  each_of P here image left = subst P (sym (only image left)) here

  pub each_shut : (which : ℕ) (slot : Slot) (pages base : List ℕ) → EachLeft images (Stands (1 - which) slot pages base) → IsShut seen which
      → EachLeft images (StandsBeside false which slot pages base)
  each_shut which slot pages base stands shut image left = record {
    stands = stands image left;
    beside = each_of (λ i. IsShut i which) shut image left;
  }
