-- What bytes begin with: a frame, less than a frame, or no frame however they go on.
use Rattle.std.specs.Prelude.{◌≡◌, ℕ, ◌^◌, ◌<◌, ◌≤◌, ◌⊎◌, Bool, List, ◌++◌, length}
use Rattle.std.specs.List.{AllByRecursion, flat_map}
use Rattle.ci_base.specs.Varint.{BeginsWithVarint, varint}
use Rattle.ci_wire.specs.Frame.{IsFrame, NoFrame, frame_spelling}
use Rattle.ci_wire.specs.declared.frame.Frame.{Frame}

-- a body has from 1 to 131,072 bytes
abbrev pub IsSize : ℕ → Type 0
IsSize size = (1 ≤ size) × (size ≤ 131072)

-- the bytes are a front of a varint, and not all of it
pub record IsVarintFront (bytes : List ℕ) : Type 0 where
  pub number : ℕ
  pub small : number < 2 ^ 64
  pub rest : List ℕ
  pub more : 0 < length rest
  pub front : varint number ≡ bytes ++ rest

-- the bytes are the size of a body and fewer bytes than it tells
pub record LacksBody (bytes : List ℕ) : Type 0 where
  pub size : ℕ
  pub in_range : IsSize size
  pub part : List ℕ
  pub fewer : length part < size
  pub whole : bytes ≡ varint size ++ part

-- the bytes are less than a frame: some may still come that make one
abbrev pub IsPartial : List ℕ → Type 0
IsPartial bytes = IsVarintFront bytes ⊎ LacksBody bytes

-- the bytes neither begin with a varint nor are a front of one
pub record HasNoSize (bytes : List ℕ) : Type 0 where
  pub not_whole : (number : ℕ) → ¬ BeginsWithVarint bytes number
  pub not_front : ¬ IsVarintFront bytes

-- the bytes begin with a size that no body has
pub record HasBadSize (bytes : List ℕ) : Type 0 where
  pub size : ℕ
  pub begins : BeginsWithVarint bytes size
  pub out_of_range : ¬ IsSize size

-- the bytes begin with a size and a whole body that is none of the grammar
pub record HasBadBody (bytes : List ℕ) : Type 0 where
  pub body : List ℕ
  pub in_range : IsSize (length body)
  pub rest : List ℕ
  pub whole : bytes ≡ varint (length body) ++ (body ++ rest)
  pub none : NoFrame body

-- the bytes begin no frame, however they go on
abbrev pub IsBad : List ℕ → Type 0
IsBad bytes = HasNoSize bytes ⊎ HasBadSize bytes ⊎ HasBadBody bytes

-- the bytes begin with this frame, and the rest follows it
pub record BeginsWithFrame (bytes : List ℕ) (frame : Frame) (rest : List ℕ) : Type 0 where
  pub grammar : IsFrame frame
  pub spelled : bytes ≡ frame_spelling frame ++ rest

-- these frames begin the bytes, one after the other, and no further frame follows them
pub record AreFrames (bytes : List ℕ) (frames : List Frame) (rest : List ℕ) : Type 0 where
  pub each : AllByRecursion IsFrame frames
  pub spelled : bytes ≡ flat_map frame_spelling frames ++ rest
  pub no_more : (frame : Frame) (after : List ℕ) → ¬ BeginsWithFrame rest frame after

-- bytes that were fed and not taken, and whether they were found to begin no frame
pub record Fed : Type 0 where
  pub bytes : List ℕ
  pub bad : Bool
