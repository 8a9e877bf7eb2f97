-- What opening a volume finds in an image.
use Rattle.std.specs.Prelude.{ℕ, ◌^◌, ◌<◌, ◌≤◌, List}
use Rattle.ci_volume.specs.declared.slot.Slot.{Slot}
use Rattle.ci_volume.specs.Chain.{IsChain}
use Rattle.ci_volume.specs.Layout.{IsCurrent}

-- a generation, a number of pages and a root that a volume may have
pub record IsBounded (slot : Slot) : Type 0 where
  pub generation : slot.generation < 2 ^ 62
  pub enough : 64 ≤ slot.pages
  pub most : slot.pages ≤ 262144
  pub root : 0 < slot.length

-- the image opens to the generation of a slot, whose root is these pages
pub record Opens (image : List ℕ) (which : ℕ) (slot : Slot) (root : List ℕ) : Type 0 where
  pub number : which ≤ 1
  pub current : IsCurrent image which slot
  pub bounded : IsBounded slot
  pub chain : IsChain image slot.pages slot.root slot.length root

-- the image opens to nothing
abbrev pub OpensToNothing : List ℕ → Type 0
OpensToNothing image = (which : ℕ) (slot : Slot) (root : List ℕ) → ¬ Opens image which slot root
