-- What a talk over the documents of a batch comes to.
use Rattle.std.specs.Prelude.{◌≡◌, ℕ, List, [], ◌∷◌, ⊤, take, Some, slice_get}
use Rattle.std.specs.List.{flat_map}
use Rattle.ci_base.specs.declared.numbers.Seq.{Seq}
use Rattle.ci_chunk.specs.Talk.{Talk}
use Rattle.ci_chunk.specs.declared.talk.Call.{Call}
use Rattle.ci_link.specs.Line.{Dies, Exchanges, RunsOut, Speaking}
use Rattle.ci_link.specs.Reading.{IsBegun, IsRead}
use Rattle.ci_chunk.specs.declared.outcome.Outcome.{Outcome}
use Rattle.ci_link.specs.declared.outcome.Talk.{Talk as Came}
use Rattle.ci_link.specs.declared.outcome.Talk.TheVariants.{Finished, Died}

-- each document was read, by the exchanges beside it, and has the outcome beside it
abbrev pub AreRead : List (List ℕ × Seq) → List Talk → List Outcome → Type 0
AreRead [] [] [] = ⊤
AreRead (doc ∷ docs) (talk ∷ talks) (outcome ∷ outcomes) = IsRead doc.0 talk outcome × AreRead docs talks outcomes
AreRead _ _ _ = ⊥

-- the exchanges of all documents, one after the other
abbrev pub joined : List Talk → Talk
joined talks = flat_map (λ talk. talk) talks

-- every document has its outcome
pub record Finishes (old new : Speaking) (docs : List (List ℕ × Seq)) (outcomes : List Outcome) : Type 0 where
  pub talks : List Talk
  pub read : AreRead docs talks outcomes
  pub exchanged : Exchanges old new (joined talks)

-- the first documents have their outcomes, and the talk died within the one that follows them
pub record DiesAt (old new : Speaking) (docs : List (List ℕ × Seq)) (charged : ℕ) : Type 0 where
  pub talks : List Talk
  pub outcomes : List Outcome
  pub read : AreRead (take charged docs) talks outcomes
  pub path : List ℕ
  pub seq : Seq
  pub doc : slice_get docs charged ≡ Some (path, seq)
  pub talk : Talk
  pub call : Call
  pub begun : IsBegun path talk call
  pub died : Dies old new (joined talks) talk call

-- what a talk over these documents came to
abbrev pub TalksAs : Speaking → Speaking → List (List ℕ × Seq) → Came → Type 0
TalksAs old new docs (Finished outcomes) = Finishes old new docs outcomes
TalksAs old new docs (Died charged) = DiesAt old new docs charged

-- the first documents have their outcomes, and memory ran out within the one that follows them
pub record RunsOutAt (old new : Speaking) (docs : List (List ℕ × Seq)) : Type 0 where
  pub place : ℕ
  pub talks : List Talk
  pub outcomes : List Outcome
  pub read : AreRead (take place docs) talks outcomes
  pub path : List ℕ
  pub seq : Seq
  pub doc : slice_get docs place ≡ Some (path, seq)
  pub talk : Talk
  pub call : Call
  pub begun : IsBegun path talk call
  pub ran_out : RunsOut old new (joined talks) talk call

-- a document was read, or its talk died, or memory ran out within it
pub record Reads (old new : Speaking) (path : List ℕ) (outcome : Outcome) : Type 0 where
  pub talk : Talk
  pub read : IsRead path talk outcome
  pub exchanged : Exchanges old new talk

pub record DiesWithin (old new : Speaking) (path : List ℕ) : Type 0 where
  pub talk : Talk
  pub call : Call
  pub begun : IsBegun path talk call
  pub died : Dies old new [] talk call

pub record RunsOutWithin (old new : Speaking) (path : List ℕ) : Type 0 where
  pub talk : Talk
  pub call : Call
  pub begun : IsBegun path talk call
  pub ran_out : RunsOut old new [] talk call
