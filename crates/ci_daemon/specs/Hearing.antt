-- The frames of a source.
use Rattle.std.specs.Prelude.{◌≡◌, ◌≢◌, ℕ, ◌⊎◌, ⊤, List, [], ◌++◌, Option, length}
use Rattle.std.specs.Io.KnownBytes.{Consumes, IsAtEnd, Keeps}
use Rattle.ci_chunk.specs.declared.talk.Answer.{Answer as Said}
use Rattle.ci_chunk.specs.declared.talk.Call.{Call as Asked}
use Rattle.ci_io.specs.Causes.{Rose}
use Rattle.ci_wire.specs.Stream.{BeginsWithFrame, IsBad, IsPartial}
use Rattle.ci_wire.specs.declared.frame.Frame.{Frame}
use Rattle.ci_wire.specs.declared.frame.Frame.TheVariants.{Call, Answer}
use Rattle.ci_daemon.specs.declared.ended.Ended.{Ended}
use Rattle.ci_daemon.specs.declared.ended.Ended.TheVariants.{Quiet, ReadFault, WriteFault, BadFrame, Spent, OutOfMemory}

-- some bytes were taken, and stand behind those that were held
pub record Feeds (held : List ℕ) (left : Option (List ℕ)) (holds : List ℕ) (leaves : Option (List ℕ)) : Type 0 where
  pub taken : List ℕ
  pub consumed : Consumes left leaves taken
  pub held_are : holds ≡ held ++ taken

-- so many bytes were
pub record FeedsSome (held : List ℕ) (left : Option (List ℕ)) (holds : List ℕ) (leaves : Option (List ℕ)) (number : ℕ) : Type 0 where
  pub taken : List ℕ
  pub consumed : Consumes left leaves taken
  pub held_are : holds ≡ held ++ taken
  pub count : length taken ≡ number

-- a frame was taken
pub record Hears (held : List ℕ) (left : Option (List ℕ)) (holds : List ℕ) (leaves : Option (List ℕ)) (frame : Frame) : Type 0 where
  pub taken : List ℕ
  pub consumed : Consumes left leaves taken
  pub begins : BeginsWithFrame (held ++ taken) frame holds

abbrev pub HearsCall : List ℕ → Option (List ℕ) → List ℕ → Option (List ℕ) → Asked → Type 0
HearsCall held left holds leaves call = Hears held left holds leaves (Call call)

-- a whole frame stands there, which is an answer
pub record BeginsWithAnswer (bytes : List ℕ) : Type 0 where
  pub answer : Said
  pub behind : List ℕ
  pub begins : BeginsWithFrame bytes (Answer answer) behind

-- the source ended within a frame
pub record EndsWithin (bytes : List ℕ) (left : Option (List ℕ)) : Type 0 where
  pub some : bytes ≢ []
  pub partial : IsPartial bytes
  pub over : IsAtEnd left

-- what stands in the place of the next call where none was taken: nothing, and the source is at its end; less than a
-- frame, and the source failed; or what is no call
abbrev pub Breaks : Ended → List ℕ → Option (List ℕ) → Type 0
Breaks Quiet rest left = (rest ≡ []) × IsAtEnd left
Breaks ReadFault rest left = IsPartial rest
Breaks BadFrame rest left = IsBad rest ⊎ BeginsWithAnswer rest ⊎ EndsWithin rest left
Breaks OutOfMemory rest left = ⊤
Breaks WriteFault rest left = ⊥
Breaks Spent rest left = ⊥

-- no call was taken
pub record Falters (held : List ℕ) (left leaves : Option (List ℕ)) (ended : Ended) : Type 0 where
  pub taken : List ℕ
  pub consumed : Consumes left leaves taken
  pub why : Breaks ended (held ++ taken) leaves

-- no bytes came to be held: the source failed, or there was no room for what it gave
abbrev pub Lapses : Option (List ℕ) → Option (List ℕ) → Ended → Type 0
Lapses left leaves ReadFault = Keeps left leaves
Lapses left leaves OutOfMemory = (taken : List ℕ) × Consumes left leaves taken
Lapses left leaves Quiet = ⊥
Lapses left leaves BadFrame = ⊥
Lapses left leaves WriteFault = ⊥
Lapses left leaves Spent = ⊥

-- the count of the source's faults rose where that is why the service ended, and not otherwise
abbrev pub ReadCounts : ℕ → ℕ → Ended → Type 0
ReadCounts before now ReadFault = Rose before now
ReadCounts before now Quiet = now ≡ before
ReadCounts before now WriteFault = now ≡ before
ReadCounts before now BadFrame = now ≡ before
ReadCounts before now Spent = now ≡ before
ReadCounts before now OutOfMemory = now ≡ before
