-- What filters say: conversations, which are calls with their answers.
use Rattle.std.specs.Prelude.{ℕ, List, [], ◌∷◌, ⊤, Option, Some, None, Result, Ok, Err, length}
use Rattle.ci_base.specs.declared.memory.OutOfMemory.{OutOfMemory as NoMemory}
use Rattle.ci_base.specs.declared.value.Value.{Value as Held}
use Rattle.ci_base.specs.declared.value.Value.TheVariants.{Int, Str}
use Rattle.ci_chunk.specs.declared.chunk.StatChunk.{StatChunk}
use Rattle.ci_chunk.specs.declared.status.Status.{Status as Code}
use Rattle.ci_chunk.specs.declared.talk.Answer.{Answer}
use Rattle.ci_chunk.specs.declared.talk.Answer.TheVariants as said
use Rattle.ci_chunk.specs.declared.talk.Call.{Call}
use Rattle.ci_chunk.specs.declared.talk.FilterStop.{FilterStop}
use Rattle.ci_chunk.specs.declared.talk.FilterStop.TheVariants.{Status, OutOfMemory}

-- calls, each with its answer, in order
abbrev pub Talk : Type 0
Talk = List (Call × Answer)

-- the answer is one that might come to the call, and what may be said from then on might have
-- followed it
pub record Answered (before : Talk → Type 0) (call : Call) (answer : Answer) (after : Talk → Type 0)
    : Type 0 where
  pub might : before ((call, answer) ∷ [])
  pub goes_on : (rest : Talk) → after rest → before ((call, answer) ∷ rest)

-- the call was answered; or nothing was said, for want of memory, and what may be said now might
-- have been said before the call
abbrev pub Heard : (Talk → Type 0) → Call → Option Answer → (Talk → Type 0) → Type 0
Heard before call (Some answer) after = Answered before call answer after
Heard before call None after = (rest : Talk) → after rest → before rest

-- the conversations of what goes from state to state: a step relates a state, a call, its answer
-- and the state after it
abbrev pub TalksBy : {S : Type 0} → (S → Call → Answer → S → Type 0) → S → Talk → Type 0
TalksBy step state [] = ⊤
TalksBy {S} step state (first ∷ rest) =
    (next : S) × step state first.0 first.1 next × TalksBy step next rest

-- the answer to Init
abbrev pub init_answer : Result Code NoMemory → Option Answer
init_answer (Ok status) = Some (said.Status status)
init_answer (Err _) = None

-- the answer where nothing else was given
abbrev pub stop_answer : FilterStop → Option Answer
stop_answer (Status status) = Some (said.Status status)
stop_answer OutOfMemory = None

-- the answer to GetChunk
abbrev pub chunk_answer : Result StatChunk FilterStop → Option Answer
chunk_answer (Ok chunk) = Some (said.Chunk chunk)
chunk_answer (Err stop) = stop_answer stop

-- the answer to GetText
abbrev pub text_answer : Result (Code × List ℕ) FilterStop → Option Answer
text_answer (Ok given) = Some (said.Text given.0 given.1)
text_answer (Err stop) = stop_answer stop

-- the answer to GetValue
abbrev pub value_answer : Result (Code × Held) FilterStop → Option Answer
value_answer (Ok given) = Some (said.Value given.0 given.1)
value_answer (Err stop) = stop_answer stop

-- the bytes of a text value, and none of a number
abbrev pub value_bytes : Held → ℕ
value_bytes (Int _) = 0
value_bytes (Str text) = length text
