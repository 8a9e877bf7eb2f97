-- What a write leaves of the parts of an image.
use Rattle.std.proofs.Common.{◌≡◌, ◌⊎◌, inl, inr, ℕ, ◌+◌, ◌<◌, ◌≤◌, List, length, get_or, drop, slice_index, refl, sym, ◌∙◌, ap, arith, length-take, length-drop, get_or-take, get_or-drop}
use Rattle.std.proofs.lemmas.List.{ext_get_or}
use Rattle.ci_device.specs.Images.{Holds, Torn}
use Rattle.ci_volume.specs.Layout.{part}

pub length-part : (image : List ℕ) (at n : ℕ) → at + n ≤ length image → length (part image at n) ≡ n
length-part image at n within = omega (arith, length-take n (drop at image), length-drop at image)

pub part-at : (image : List ℕ) (at n i : ℕ) → i < n → get_or (part image at n) i 0 ≡ get_or image (at + i) 0
part-at image at n i below = get_or-take n (drop at image) i 0 below ∙ get_or-drop at image i 0

-- a byte outside the range of a torn write
pub byte_kept : (at n : ℕ) (old new : List ℕ) → Torn at n old new → (i : ℕ) → i < length old → (i < at) ⊎ (at + n ≤ i)
    → slice_index new i ≡ slice_index old i
byte_kept at n old new torn i within (inl before) = torn.below i within before
byte_kept at n old new torn i within (inr behind) = torn.above i within behind

-- a part outside the range of a torn write
pub part_kept : (at n : ℕ) (old new : List ℕ) → Torn at n old new → (place size : ℕ) → place + size ≤ length old
    → (place + size ≤ at) ⊎ (at + n ≤ place) → part new place size ≡ part old place size
part_kept at n old new torn place size within apart =
    let longer : place + size ≤ length new = omega (arith, within, torn.no_shorter) in
    let sizes : length (part new place size) ≡ length (part old place size) = length-part new place size longer ∙ sym (length-part old place size within) in
    ext_get_or 0 (part new place size) (part old place size) sizes (λ i below. same i (omega (arith, below, length-part new place size longer)))
  where
    outside : (i : ℕ) → i < size → (place + size ≤ at) ⊎ (at + n ≤ place) → (place + i < at) ⊎ (at + n ≤ place + i)
    outside i below (inl before) = inl (omega (arith, below, before))
    outside i below (inr behind) = inr (omega (arith, below, behind))

    same : (i : ℕ) → i < size → get_or (part new place size) i 0 ≡ get_or (part old place size) i 0
    same i below =
        part-at new place size i below
        ∙ byte_kept at n old new torn (place + i) (omega (arith, below, within)) (outside i below apart)
        ∙ sym (part-at old place size i below)

-- the part that holds some bytes is these
pub part_held : (image : List ℕ) (at : ℕ) (bytes : List ℕ) → Holds image at bytes → part image at (length bytes) ≡ bytes
part_held image at bytes holds =
    let size : length (part image at (length bytes)) ≡ length bytes = length-part image at (length bytes) holds.within in
    ext_get_or 0 (part image at (length bytes)) bytes size (λ i below. same i (omega (arith, below, size)))
  where
    same : (i : ℕ) → i < length bytes → get_or (part image at (length bytes)) i 0 ≡ get_or bytes i 0
    same i below = part-at image at (length bytes) i below ∙ holds.each i below

-- a write that was cut short before its first byte
pub untouched : (at n : ℕ) (bytes : List ℕ) → Torn at n bytes bytes
untouched at n bytes = record {
  no_shorter = omega arith;
  no_longer = omega arith;
  below = λ i within before. refl;
  above = λ i within behind. refl;
}

-- what is held behind the range of a torn write stays
pub holds_behind : (at n : ℕ) (old new : List ℕ) (place : ℕ) (bytes : List ℕ) → Torn at n old new → at + n ≤ place → Holds old place bytes → Holds new place bytes
holds_behind at n old new place bytes torn behind holds = record {
  within = omega (arith, holds.within, torn.no_shorter);
  each = λ i below. byte_kept at n old new torn (place + i) (omega (arith, below, holds.within)) (inr (omega (arith, behind))) ∙ holds.each i below;
}

-- a part of what is held
pub part_within : (image : List ℕ) (at : ℕ) (bytes : List ℕ) → Holds image at bytes → (from n : ℕ) → from + n ≤ length bytes → part image (at + from) n ≡ part bytes from n
part_within image at bytes holds from n within =
    let size : length (part image (at + from) n) ≡ n = length-part image (at + from) n (omega (arith, holds.within, within)) in
    let wanted : length (part bytes from n) ≡ n = length-part bytes from n within in
    ext_get_or 0 (part image (at + from) n) (part bytes from n) (size ∙ sym wanted) (λ i below. same i (omega (arith, below, size)))
  where
    place : (i : ℕ) → at + from + i ≡ at + (from + i)
    place i = omega arith

    same : (i : ℕ) → i < n → get_or (part image (at + from) n) i 0 ≡ get_or (part bytes from n) i 0
    same i below =
        part-at image (at + from) n i below
        ∙ ap (λ j. get_or image j 0) (place i)
        ∙ holds.each (from + i) (omega (arith, below, within))
        ∙ sym (part-at bytes from n i below)
