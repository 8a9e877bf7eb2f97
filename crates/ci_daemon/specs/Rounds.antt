-- The calls of a server, each with its one answer: what the filters are asked for it, and what is said without them.
use Rattle.std.specs.Prelude.{◌≡◌, ◌≢◌, ℕ, ◌<◌, ◌^◌, ◌⊎◌, nat_le, Bool, true, false, List, [], ◌∷◌, ◌++◌, Option, Some, None, MatchOption, map, if◌then◌else◌}
use Rattle.std.specs.List.{range_with_len}
use Rattle.ci_chunk.specs.Statuses.{end_of_chunks, no_text, no_values, unknown_format}
use Rattle.ci_chunk.specs.declared.chunk.ChunkState.{ChunkState}
use Rattle.ci_chunk.specs.declared.chunk.ChunkState.TheVariants.{Text as HasText, Value as HasValue}
use Rattle.ci_chunk.specs.declared.status.Status.{Status as Code}
use Rattle.ci_chunk.specs.declared.talk.Answer.{Answer}
use Rattle.ci_chunk.specs.declared.talk.Answer.TheVariants as said
use Rattle.ci_chunk.specs.declared.talk.Call.{Call}
use Rattle.ci_chunk.specs.declared.talk.Call.TheVariants.{Init, GetChunk, GetText, GetValue}
use Rattle.ci_daemon.specs.Questions.{Question}
use Rattle.ci_daemon.specs.declared.holding.Holding.{Holding}

-- a call, what the filters were asked for it, in order, and its answer
pub record Round : Type 0 where
  pub call : Call
  pub asked : List Question
  pub answer : Answer

abbrev pub question : ℕ → Call → Answer → Question
question place call answer = record { place = place; call = call; answer = answer }

-- the first so many filters don't take the document
abbrev pub refusals : Call → ℕ → List Question
refusals call count = map (λ place. question place call (said.Status unknown_format)) (range_with_len 0 count)

-- an answer that is a failing status, whose top bit is set
abbrev pub is_failing : Answer → Bool
is_failing (said.Status status) = nat_le (2 ^ 31) status.0
is_failing (said.Chunk _) = false
is_failing (said.Text _ _) = false
is_failing (said.Value _ _) = false

-- the filter holds the document that it took, unless its answer is a failing one
abbrev pub opened : ℕ → Answer → Option Holding
opened place answer = if is_failing answer then None else Some (record { filter = place; given = None })

-- Init: the filters are asked in order. The first whose answer isn't UNKNOWNFORMAT takes the document;
pub record IsTaken (count : ℕ) (round : Round) (after : Option Holding) : Type 0 where
  pub place : ℕ
  pub within : place < count
  pub takes : round.answer ≢ said.Status unknown_format
  pub asked : round.asked ≡ refusals round.call place ++ question place round.call round.answer ∷ []
  pub holds : after ≡ opened place round.answer

-- or none of them does
pub record IsUnknown (count : ℕ) (round : Round) (after : Option Holding) : Type 0 where
  pub asked : round.asked ≡ refusals round.call count
  pub answer : round.answer ≡ said.Status unknown_format
  pub holds : after ≡ None

abbrev pub Opens : ℕ → Round → Option Holding → Type 0
Opens count round after = IsTaken count round after ⊎ IsUnknown count round after

-- a call that is answered with a status, and no filter is asked
pub record IsUnasked (status : Code) (before : Option Holding) (round : Round) (after : Option Holding) : Type 0 where
  pub asked : round.asked ≡ []
  pub answer : round.answer ≡ said.Status status
  pub holds : after ≡ before

-- the state of the chunk that was given last
abbrev pub given_by : Answer → Option ChunkState → Option ChunkState
given_by (said.Chunk chunk) given = Some chunk.state
given_by (said.Status _) given = given
given_by (said.Text _ _) given = given
given_by (said.Value _ _) given = given

-- a call that is answered by the filter that holds the document
pub record IsHolders (holding : Holding) (round : Round) (after : Option Holding) : Type 0 where
  pub asked : round.asked ≡ question holding.filter round.call round.answer ∷ []
  pub holds : after ≡ Some (record holding { given = given_by round.answer holding.given })

-- what the chunk that was given last lacks, if anything: a text is there only in a chunk of texts, a value in one of values
abbrev pub lacks : Call → Option ChunkState → Option Code
lacks (GetText max) (Some HasText) = None
lacks (GetText max) given = Some no_text
lacks GetValue (Some HasValue) = None
lacks GetValue given = Some no_values
lacks GetChunk given = None
lacks (Init flags path) given = None

-- the other calls: where no document is open there are no chunks
abbrev pub Goes : Option Holding → Round → Option Holding → Type 0
Goes None round after = IsUnasked end_of_chunks None round after
Goes (Some holding) round after =
    MatchOption (lacks round.call holding.given) (IsHolders holding round after) (λ status. IsUnasked status (Some holding) round after)

abbrev pub is_init : Call → Bool
is_init (Init flags path) = true
is_init GetChunk = false
is_init (GetText max) = false
is_init GetValue = false

abbrev pub Fits : Bool → ℕ → Option Holding → Round → Option Holding → Type 0
Fits true count before round after = Opens count round after
Fits false count before round after = Goes before round after

-- one call is answered, over so many filters, from what was open before to what is open after
abbrev pub IsRound : ℕ → Option Holding → Round → Option Holding → Type 0
IsRound count before round after = Fits (is_init round.call) count before round after

-- and calls one after the other
abbrev pub AreRounds : ℕ → Option Holding → List Round → Option Holding → Type 0
AreRounds count before [] after = after ≡ before
AreRounds count before (round ∷ rest) after = (mid : Option Holding) × IsRound count before round mid × AreRounds count mid rest after
