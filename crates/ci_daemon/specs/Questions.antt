-- What the filters are asked.
use Rattle.std.specs.Prelude.{◌≢◌, ℕ, ◌==◌, List, [], ◌++◌, Option, Some, None, Result, Ok, Err, map}
use Rattle.std.specs.List.{filter}
use Rattle.ci_base.specs.declared.memory.OutOfMemory.{OutOfMemory as NoMemory}
use Rattle.ci_chunk.specs.Talk.{Heard, Talk}
use Rattle.ci_chunk.specs.declared.talk.Answer.{Answer}
use Rattle.ci_chunk.specs.declared.talk.Call.{Call}

-- the answer that was given, if any
abbrev pub answer_of : Result Answer NoMemory → Option Answer
answer_of (Ok answer) = Some answer
answer_of (Err _) = None

-- a call that the filter at a place got, with its answer
pub record Question : Type 0 where
  pub place : ℕ
  pub call : Call
  pub answer : Answer

-- what one filter was asked, and said
abbrev pub said_by : ℕ → List Question → Talk
said_by place asked = map (λ q. (q.call, q.answer)) (filter (λ q. q.place == place) asked)

-- a filter had this conversation, from what it might say before to what it may say afterwards
pub record HasSaid (before : Talk → Type 0) (said : Talk) (after : Talk → Type 0) : Type 0 where
  pub might : said ≢ [] → before said
  pub goes_on : (rest : Talk) → after rest → before (said ++ rest)

-- the filters were asked this; those that weren't asked said nothing. A filter is told by its place.
abbrev pub AreAsked : (ℕ → Talk → Type 0) → List Question → (ℕ → Talk → Type 0) → Type 0
AreAsked before asked after = (place : ℕ) → HasSaid (before place) (said_by place asked) (after place)

-- one filter got a call, and the others said nothing
pub record Asks (before : ℕ → Talk → Type 0) (place : ℕ) (call : Call) (answer : Option Answer) (after : ℕ → Talk → Type 0) : Type 0 where
  pub heard : Heard (before place) call answer (after place)
  pub others : (other : ℕ) → other ≢ place → (rest : Talk) → after other rest → before other rest
