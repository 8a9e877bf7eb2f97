-- What goes over the pipe to a daemon.
use Rattle.std.specs.Prelude.{◌≡◌, ◌<◌, ◌⊎◌, ℕ, Bool, false, List, [], ◌++◌, Option, IfSome, length}
use Rattle.std.specs.List.{AllByRecursion, flat_map}
use Rattle.std.specs.Io.KnownBytes.{Appends}
use Rattle.ci_io.specs.Causes.{Rose}
use Rattle.ci_chunk.specs.Talk.{Talk}
use Rattle.ci_chunk.specs.declared.talk.Call.{Call as Asked}
use Rattle.ci_wire.specs.Frame.{IsAnswer, frame_spelling}
use Rattle.ci_wire.specs.Stream.{BeginsWithFrame, Fed, IsBad, IsPartial}
use Rattle.ci_wire.specs.declared.frame.Frame.{Frame}
use Rattle.ci_wire.specs.declared.frame.Frame.TheVariants.{Call, Answer}
use Rattle.ci_link.specs.Reading.{Illegal, after}

-- a daemon: the bytes that its link took and gave so far and whether any are still to come, where the link tells them;
-- the link's count of faults; and the bytes that were given and not read yet
pub record Speaking : Type 0 where
  pub sent : Option (List ℕ)
  pub given : Option (List ℕ)
  pub more : Option Bool
  pub faults : ℕ
  pub fed : Fed

-- the spellings of the calls of some exchanges, one after the other, and of the answers
abbrev pub calls_bytes : Talk → List ℕ
calls_bytes talk = flat_map (λ e. frame_spelling (Call e.0)) talk

abbrev pub answers_bytes : Talk → List ℕ
answers_bytes talk = flat_map (λ e. frame_spelling (Answer e.1)) talk

-- these exchanges were had: the calls were sent, and the answers read
pub record Exchanges (old new : Speaking) (talk : Talk) : Type 0 where
  pub received : List ℕ
  pub given : Appends old.given new.given received
  pub read : old.fed.bytes ++ received ≡ answers_bytes talk ++ new.fed.bytes
  pub sent : Appends old.sent new.sent (calls_bytes talk)
  pub faults : new.faults ≡ old.faults
  pub grammar : AllByRecursion (λ e. IsAnswer e.1) talk

-- a frame that isn't a legal answer to the call, behind these exchanges of the document
abbrev pub IsIllegal : Talk → Asked → Frame → Type 0
IsIllegal talk call (Answer answer) = after talk call answer ≡ Illegal
IsIllegal talk call (Call _) = Unit {0}

-- some bytes are a front of others, and lack some of them
pub record IsFrontOf (part whole : List ℕ) : Type 0 where
  pub lacking : List ℕ
  pub some : 0 < length lacking
  pub front : whole ≡ part ++ lacking

-- why a talk ended at a call, of which this part was sent, where these bytes stand in the answer's place
pub data Cause (old new : Speaking) (talk : Talk) (call : Asked) (part rest : List ℕ) : Type 0 where
  -- a whole frame stands there, and is no legal answer
  NotLegal : (frame : Frame) (behind : List ℕ) → part ≡ frame_spelling (Call call) → BeginsWithFrame rest frame behind
      → IsIllegal talk call frame → Cause old new talk call part rest
  -- they begin no frame
  BadBytes : part ≡ frame_spelling (Call call) → IsBad rest → Cause old new talk call part rest
  -- they are less than a frame, and nothing is still to come
  Ended : part ≡ frame_spelling (Call call) → IsPartial rest → IfSome new.more (λ m. m ≡ false) → Cause old new talk call part rest
  -- they are less than a frame, and the link's count rose
  Failed : part ≡ frame_spelling (Call call) → IsPartial rest → Rose old.faults new.faults → Cause old new talk call part rest
  -- the call wasn't wholly sent, and the link's count rose
  Unsent : IsFrontOf part (frame_spelling (Call call)) → Rose old.faults new.faults → Cause old new talk call part rest

-- these exchanges were had, of earlier documents and then of this one, and the talk died at the next call
pub record Dies (old new : Speaking) (earlier talk : Talk) (call : Asked) : Type 0 where
  pub received : List ℕ
  pub given : Appends old.given new.given received
  pub rest : List ℕ
  pub read : old.fed.bytes ++ received ≡ answers_bytes (earlier ++ talk) ++ rest
  pub part : List ℕ
  pub sent : Appends old.sent new.sent (calls_bytes (earlier ++ talk) ++ part)
  pub cause : Cause old new talk call part rest

-- the daemon gave these bytes, which are held
pub record Receives (old new : Speaking) (received : List ℕ) : Type 0 where
  pub given : Appends old.given new.given received
  pub held : new.fed.bytes ≡ old.fed.bytes ++ received
  pub sent : new.sent ≡ old.sent
  pub faults : new.faults ≡ old.faults

-- the daemon gave so many bytes
pub record ReceivesSome (old new : Speaking) (number : ℕ) : Type 0 where
  pub received : List ℕ
  pub receives : Receives old new received
  pub count : length received ≡ number

-- nothing was received, and the link's count rose
pub record ReceivesNone (old new : Speaking) : Type 0 where
  pub given : new.given ≡ old.given
  pub held : new.fed.bytes ≡ old.fed.bytes
  pub sent : new.sent ≡ old.sent
  pub rose : Rose old.faults new.faults

-- a frame came
pub record Hands (old new : Speaking) (frame : Frame) : Type 0 where
  pub received : List ℕ
  pub given : Appends old.given new.given received
  pub begins : BeginsWithFrame (old.fed.bytes ++ received) frame new.fed.bytes
  pub sent : new.sent ≡ old.sent
  pub faults : new.faults ≡ old.faults

-- no frame came: the bytes begin none; or they are less than one, and nothing is still to come or the count rose
pub record Falters (old new : Speaking) : Type 0 where
  pub received : List ℕ
  pub given : Appends old.given new.given received
  pub sent : new.sent ≡ old.sent
  pub why : IsBad (old.fed.bytes ++ received)
      ⊎ IsPartial (old.fed.bytes ++ received) × (IfSome new.more (λ m. m ≡ false) ⊎ Rose old.faults new.faults)

-- a call got no answer
pub record Unanswered (old new : Speaking) (call : Asked) : Type 0 where
  pub received : List ℕ
  pub given : Appends old.given new.given received
  pub part : List ℕ
  pub sent : Appends old.sent new.sent part
  pub cause : (talk : Talk) → Cause old new talk call part (old.fed.bytes ++ received)

-- for want of memory a call got no answer: it was wholly sent, or nothing of it, and no call on the link failed
pub record RunsShort (old new : Speaking) (call : Asked) : Type 0 where
  pub received : List ℕ
  pub given : Appends old.given new.given received
  pub part : List ℕ
  pub sent : Appends old.sent new.sent part
  pub whole : (part ≡ []) ⊎ (part ≡ frame_spelling (Call call))
  pub faults : new.faults ≡ old.faults

-- these exchanges were had, of earlier documents and then of this one, and memory ran out at the next call: it was wholly
-- sent, or nothing of it, and no call on the link failed
pub record RunsOut (old new : Speaking) (earlier talk : Talk) (call : Asked) : Type 0 where
  pub received : List ℕ
  pub given : Appends old.given new.given received
  pub rest : List ℕ
  pub read : old.fed.bytes ++ received ≡ answers_bytes (earlier ++ talk) ++ rest
  pub part : List ℕ
  pub sent : Appends old.sent new.sent (calls_bytes (earlier ++ talk) ++ part)
  pub whole : (part ≡ []) ⊎ (part ≡ frame_spelling (Call call))
  pub faults : new.faults ≡ old.faults

-- the daemon gave some bytes, and nothing else happened on the link
pub record GivesSome (old new : Speaking) : Type 0 where
  pub received : List ℕ
  pub given : Appends old.given new.given received
  pub sent : new.sent ≡ old.sent
  pub faults : new.faults ≡ old.faults
