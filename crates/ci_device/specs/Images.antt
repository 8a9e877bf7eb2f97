-- What a write leaves of a disk's bytes, and what a stop may leave of them.
use Rattle.std.specs.Prelude.{◌≡◌, ℕ, ◌+◌, ◌<◌, ◌≤◌, max, List, [], ◌∷◌, length, slice_index}

-- a range of places: the first, and how many
abbrev pub Range : Type 0
Range = ℕ × ℕ

-- the bytes stand at this place
pub record Holds (image : List ℕ) (at : ℕ) (bytes : List ℕ) : Type 0 where
  pub within : at + length bytes ≤ length image
  pub each : (i : ℕ) → i < length bytes → slice_index image (at + i) ≡ slice_index bytes i

-- a write of n bytes at a place that a stop cut short: any bytes in the range and past the old end, where the image may
-- end anywhere; all others stay
pub record Torn (at n : ℕ) (old new : List ℕ) : Type 0 where
  pub no_shorter : length old ≤ length new
  pub no_longer : length new ≤ max (length old) (at + n)
  pub below : (i : ℕ) → i < length old → i < at → slice_index new i ≡ slice_index old i
  pub above : (i : ℕ) → i < length old → at + n ≤ i → slice_index new i ≡ slice_index old i

-- each image that may be left now is one that might be left before, after this step
abbrev pub Follows : (List ℕ → List ℕ → Type 0) → (List ℕ → Type 0) → (List ℕ → Type 0) → Type 0
Follows step before now = (image : List ℕ) → now image → (earlier : List ℕ) × before earlier × step earlier image

-- a stop leaves no image but those that it might leave before
abbrev pub NoMore : (List ℕ → Type 0) → (List ℕ → Type 0) → Type 0
NoMore before now = (image : List ℕ) → now image → before image

-- a stop leaves these bytes and nothing else
abbrev pub Only : List ℕ → (List ℕ → Type 0) → Type 0
Only bytes images = (image : List ℕ) → images image → image ≡ bytes

-- the image that torn writes may make of what was synced; the newest write stands first
abbrev pub Reaches : List ℕ → List Range → List ℕ → Type 0
Reaches synced [] image = image ≡ synced
Reaches synced (write ∷ earlier) image =
    (before : List ℕ) × Reaches synced earlier before × Torn write.0 write.1 before image
