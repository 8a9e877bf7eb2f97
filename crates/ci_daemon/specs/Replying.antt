-- What a call comes to, over filters with these conversations.
use Rattle.std.specs.Prelude.{◌≡◌, ℕ, ◌<◌, List, Option, IfSome}
use Rattle.std.specs.List.{AllByRecursion}
use Rattle.ci_chunk.specs.Talk.{Talk}
use Rattle.ci_chunk.specs.declared.talk.Call.{Call}
use Rattle.ci_wire.specs.Frame.{CanEncode}
use Rattle.ci_daemon.specs.Questions.{AreAsked, Question}
use Rattle.ci_daemon.specs.Rounds.{IsRound}
use Rattle.ci_daemon.specs.declared.holding.Holding.{Holding}
use Rattle.ci_daemon.specs.declared.reply.Reply.{Reply}

-- the filter that holds the document is one of so many
abbrev pub IsWithin : ℕ → Option Holding → Type 0
IsWithin count document = IfSome document (λ h. h.filter < count)

-- the call was answered: by the rules, and as the filters that were asked may answer
pub record Replies (count : ℕ) (before : ℕ → Talk → Type 0) (document : Option Holding) (call : Call) (after : ℕ → Talk → Type 0) (reply : Reply) : Type 0 where
  pub asked : List Question
  pub of_call : AllByRecursion (λ q. q.call ≡ call) asked
  pub by_rules : IsRound count document (record { call = call; asked = asked; answer = reply.answer }) reply.document
  pub said : AreAsked before asked after
  pub encodes : CanEncode reply.answer
  pub within : IsWithin count reply.document

-- some filters were asked for the call, and no answer was given
pub record Leaves (before : ℕ → Talk → Type 0) (call : Call) (after : ℕ → Talk → Type 0) : Type 0 where
  pub asked : List Question
  pub of_call : AllByRecursion (λ q. q.call ≡ call) asked
  pub said : AreAsked before asked after
