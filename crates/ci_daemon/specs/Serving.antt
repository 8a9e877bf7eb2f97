-- What the service of filters over a pipe comes to.
use Rattle.std.specs.Prelude.{◌≡◌, ℕ, ◌<◌, ◌^◌, ⊤, List, [], ◌∷◌, ◌++◌, Option, None, length, take}
use Rattle.std.specs.List.{AllByRecursion, flat_map}
use Rattle.std.specs.Io.KnownBytes.{Appends, Consumes}
use Rattle.ci_chunk.specs.Talk.{Talk}
use Rattle.ci_chunk.specs.declared.talk.Answer.{Answer as Said}
use Rattle.ci_chunk.specs.declared.talk.Call.{Call as Asked}
use Rattle.ci_io.specs.Causes.{Rose}
use Rattle.ci_io.specs.Putting.{AppendsFront}
use Rattle.ci_wire.specs.Frame.{IsCall, frame_spelling}
use Rattle.ci_wire.specs.Stream.{BeginsWithFrame}
use Rattle.ci_wire.specs.declared.frame.Frame.TheVariants.{Call, Answer}
use Rattle.ci_daemon.specs.Hearing.{Breaks}
use Rattle.ci_daemon.specs.Questions.{AreAsked, Question}
use Rattle.ci_daemon.specs.Rounds.{AreRounds, Round}
use Rattle.ci_daemon.specs.declared.ended.Ended.{Ended}
use Rattle.ci_daemon.specs.declared.ended.Ended.TheVariants.{Quiet, ReadFault, WriteFault, BadFrame, Spent, OutOfMemory}
use Rattle.ci_daemon.specs.declared.holding.Holding.{Holding}

-- where a service stands: the bytes that were taken and are held, the document that is open, the bytes still to come and
-- those written, where they are told
pub record Standing : Type 0 where
  pub held : List ℕ
  pub document : Option Holding
  pub left : Option (List ℕ)
  pub written : Option (List ℕ)

-- the beginning: nothing is held, and no document is open
abbrev pub begun : Option (List ℕ) → Option (List ℕ) → Standing
begun left written = record { held = []; document = None; left = left; written = written }

-- the spellings of the calls of some rounds, one after the other, and of the answers
abbrev pub calls_bytes : List Round → List ℕ
calls_bytes rounds = flat_map (λ r. frame_spelling (Call r.call)) rounds

abbrev pub answers_bytes : List Round → List ℕ
answers_bytes rounds = flat_map (λ r. frame_spelling (Answer r.answer)) rounds

-- all that the filters were asked in these rounds
abbrev pub questions : List Round → List Question
questions rounds = flat_map (λ r. r.asked) rounds

-- the calls of these rounds were taken, each was answered by the rules of a round, the answers were written in order, and
-- the filters said what the rounds tell
pub record Serves (count : ℕ) (before : ℕ → Talk → Type 0) (old : Standing) (rounds : List Round) (new : Standing) (after : ℕ → Talk → Type 0) : Type 0 where
  pub by_rules : AreRounds count old.document rounds new.document
  pub taken : List ℕ
  pub consumed : Consumes old.left new.left taken
  pub read : old.held ++ taken ≡ calls_bytes rounds ++ new.held
  pub grammar : AllByRecursion (λ r. IsCall r.call) rounds
  pub written : Appends old.written new.written (answers_bytes rounds)
  pub asked : AreAsked before (questions rounds) after

-- one call was
pub record ServesOne (count : ℕ) (before : ℕ → Talk → Type 0) (old new : Standing) (after : ℕ → Talk → Type 0) : Type 0 where
  pub round : Round
  pub serves : Serves count before old (round ∷ []) new after

-- an answer wasn't written, or not to its end
abbrev pub Unsaid : Said → Option (List ℕ) → Option (List ℕ) → Ended → Type 0
Unsaid answer old new WriteFault = AppendsFront old new (frame_spelling (Answer answer))
Unsaid answer old new OutOfMemory = new ≡ old
Unsaid answer old new Quiet = ⊥
Unsaid answer old new ReadFault = ⊥
Unsaid answer old new BadFrame = ⊥
Unsaid answer old new Spent = ⊥

-- why a service ended behind these rounds, where these bytes stand in the place of the next call
abbrev pub Cause : Ended → List Round → List ℕ → Option (List ℕ) → Type 0
Cause Quiet rounds rest left = Breaks Quiet rest left
Cause ReadFault rounds rest left = Breaks ReadFault rest left
Cause BadFrame rounds rest left = Breaks BadFrame rest left
Cause WriteFault rounds rest left = ⊤
Cause Spent rounds rest left = length rounds ≡ 2 ^ 32
Cause OutOfMemory rounds rest left = ⊤

-- the answers of these rounds were written, the last one not to its end
pub record IsCutOff (old new : Option (List ℕ)) (rounds : List Round) : Type 0 where
  pub whole : List Round
  pub last : Round
  pub rounds_are : rounds ≡ whole ++ last ∷ []
  pub kept : ℕ
  pub lacks : kept < length (frame_spelling (Answer last.answer))
  pub written : Appends old new (answers_bytes whole ++ take kept (frame_spelling (Answer last.answer)))

-- the answers were written
abbrev pub Writes : Ended → Option (List ℕ) → Option (List ℕ) → List Round → Type 0
Writes WriteFault old new rounds = IsCutOff old new rounds
Writes Quiet old new rounds = Appends old new (answers_bytes rounds)
Writes ReadFault old new rounds = Appends old new (answers_bytes rounds)
Writes BadFrame old new rounds = Appends old new (answers_bytes rounds)
Writes Spent old new rounds = Appends old new (answers_bytes rounds)
Writes OutOfMemory old new rounds = Appends old new (answers_bytes rounds)

-- the bytes begin with this call
abbrev pub BeginsWithCall : List ℕ → Asked → Type 0
BeginsWithCall bytes call = (behind : List ℕ) × BeginsWithFrame bytes (Call call) behind

-- what was asked for the next call, which got no answer for want of memory
abbrev pub IsLost : Ended → List ℕ → List Question → Type 0
IsLost OutOfMemory rest lost = AllByRecursion (λ q. BeginsWithCall rest q.call) lost
IsLost Quiet rest lost = lost ≡ []
IsLost ReadFault rest lost = lost ≡ []
IsLost WriteFault rest lost = lost ≡ []
IsLost BadFrame rest lost = lost ≡ []
IsLost Spent rest lost = lost ≡ []

-- what a service of so many filters came to: the calls of some rounds were taken, each was answered by the rules of a
-- round, the answers were written in order, and the filters said what the rounds tell; and it ended for its cause
pub record Served (count : ℕ) (before : ℕ → Talk → Type 0) (old : Standing) (ended : Ended) (left written : Option (List ℕ)) (after : ℕ → Talk → Type 0) : Type 0 where
  pub rounds : List Round
  pub document : Option Holding
  pub by_rules : AreRounds count old.document rounds document
  pub taken : List ℕ
  pub consumed : Consumes old.left left taken
  pub rest : List ℕ
  pub read : old.held ++ taken ≡ calls_bytes rounds ++ rest
  pub grammar : AllByRecursion (λ r. IsCall r.call) rounds
  pub wrote : Writes ended old.written written rounds
  pub cause : Cause ended rounds rest left
  pub lost : List Question
  pub is_lost : IsLost ended rest lost
  pub asked : AreAsked before (questions rounds ++ lost) after

-- the count of the sink's faults rose where that is why the service ended, and not otherwise
abbrev pub WriteCounts : ℕ → ℕ → Ended → Type 0
WriteCounts before now WriteFault = Rose before now
WriteCounts before now Quiet = now ≡ before
WriteCounts before now ReadFault = now ≡ before
WriteCounts before now BadFrame = now ≡ before
WriteCounts before now Spent = now ≡ before
WriteCounts before now OutOfMemory = now ≡ before
