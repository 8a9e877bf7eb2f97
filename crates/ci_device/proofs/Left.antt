-- What a stop may leave of a platter.
use Rattle.std.proofs.Common.{◌≡◌, inl, inr, ℕ, List, [], ◌∷◌, refl, subst, sym, arith}
use Rattle.ci_device.specs.Images.{Range, Torn, Follows, Reaches}
use Rattle.ci_device.specs.Memory.{PlatterState, Fills, FilledFrom, IsLeft, IsPicked}
use Rattle.ci_device.specs.declared.pick.Pick.{Pick}
use Rattle.ci_device.specs.declared.pick.Pick.TheVariants.{Old, New, Filled}

-- a write that was cut short before its first byte
pub untouched : (at n : ℕ) (bytes : List ℕ) → Torn at n bytes bytes
untouched at n bytes = record {
  no_shorter = omega arith;
  no_longer = omega arith;
  below = λ i within before. refl;
  above = λ i within behind. refl;
}

reaches_synced : (synced : List ℕ) (writes : List Range) → Reaches synced writes synced
reaches_synced synced [] = refl
reaches_synced synced (write ∷ earlier) = (synced, reaches_synced synced earlier, untouched write.0 write.1 synced)

torn_fill : (at n byte : ℕ) (old new : List ℕ) → Fills at n byte old new → Torn at n old new
torn_fill at n byte old new fills = record {
  no_shorter = omega (arith, fills.size);
  no_longer = omega (arith, fills.size);
  below = fills.below;
  above = fills.above;
}

reaches_filled : (byte : ℕ) (synced : List ℕ) (writes : List Range) (image : List ℕ) → FilledFrom byte synced writes image → Reaches synced writes image
reaches_filled byte synced [] image is = is
reaches_filled byte synced (write ∷ earlier) image (before, filled, fills) =
    (before, reaches_filled byte synced earlier before filled, torn_fill write.0 write.1 byte before image fills)

-- an image that is picked is one that a stop may leave
pub picked_left : (platter : PlatterState) (pick : Pick) (image : List ℕ) → IsPicked platter pick image → IsLeft platter image
picked_left platter Old image is = inr (subst (λ bytes. Reaches platter.synced platter.writes bytes) (sym is) (reaches_synced platter.synced platter.writes))
picked_left platter New image is = inl is
picked_left platter (Filled byte) image is = inr (reaches_filled byte platter.synced platter.writes image is)

-- a write that leaves the platter as it was
pub follows_same : (at n : ℕ) (old new : PlatterState) → new ≡ old → Follows (Torn at n) (IsLeft old) (IsLeft new)
follows_same at n old new same image left = (image, subst (λ p. IsLeft p image) same left, untouched at n image)

-- the platter before a write under another name
pub follows_from : (at n : ℕ) (old named new : PlatterState) → old ≡ named → Follows (Torn at n) (IsLeft old) (IsLeft new) → Follows (Torn at n) (IsLeft named) (IsLeft new)
follows_from at n old named new same follows = subst (λ p. Follows (Torn at n) (IsLeft p) (IsLeft new)) same follows
