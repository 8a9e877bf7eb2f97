-- How the talks of a journal fit the links to daemons: those that were given back, and the one that is held.
use Rattle.std.specs.Prelude.{◌≡◌, ⊤, ℕ, List, [], ◌∷◌, ◌++◌, Option, Some, None, nat_lt}
use Rattle.ci_base.specs.declared.numbers.Seq.{Seq}
use Rattle.ci_chunk.specs.declared.outcome.Outcome.{Outcome}
use Rattle.ci_link.specs.Line.{Speaking}
use Rattle.ci_link.specs.Talking.{DiesAt, Finishes, RunsOutAt}
use Rattle.ci_link.specs.declared.outcome.Talk.TheVariants.{Finished, Died}
use Rattle.ci_link.specs.declared.record.LinkRecord.{LinkRecord}
use Rattle.ci_worker.specs.Talks.{BatchTalk, batch_talk}

-- these talks were had, one behind the other, each to its end
pub data Speaks (first : Speaking) : List BatchTalk → Speaking → Type 0 where
  Silent : Speaks first [] first
  Through : (talks : List BatchTalk) (mid now : Speaking) (docs : List (List ℕ × Seq)) (outcomes : List Outcome)
      → Speaks first talks mid → Finishes mid now docs outcomes
      → Speaks first (talks ++ batch_talk docs (Finished outcomes) ∷ []) now

-- and then the link was left: between two talks; behind one that no event tells of, since there was no memory or its event
-- was refused; or where a talk died, which is the last
pub data Leaves (first : Speaking) : List BatchTalk → Speaking → Type 0 where
  Between : (talks : List BatchTalk) (now : Speaking) → Speaks first talks now → Leaves first talks now
  Starved : (talks : List BatchTalk) (mid now : Speaking) (docs : List (List ℕ × Seq))
      → Speaks first talks mid → RunsOutAt mid now docs → Leaves first talks now
  Untold : (talks : List BatchTalk) (mid now : Speaking) (docs : List (List ℕ × Seq)) (outcomes : List Outcome)
      → Speaks first talks mid → Finishes mid now docs outcomes → Leaves first talks now
  Dead : (talks : List BatchTalk) (mid now : Speaking) (docs : List (List ℕ × Seq)) (charged : ℕ)
      → Speaks first talks mid → DiesAt mid now docs charged
      → Leaves first (talks ++ batch_talk docs (Died charged) ∷ []) now

-- a link that tells its bytes, at its start
pub record IsUnused (link : Speaking) : Type 0 where
  pub sent : link.sent ≡ Some []
  pub given : link.given ≡ Some []
  pub read : link.fed.bytes ≡ []
  pub faults : link.faults ≡ 0

-- the record tells how the link was left
pub record Records (link : Speaking) (entry : LinkRecord) : Type 0 where
  pub sent : link.sent ≡ Some entry.sent
  pub given : link.given ≡ Some entry.given
  pub more : link.more ≡ Some entry.more
  pub rose : entry.rose ≡ nat_lt 0 link.faults

-- these talks are the readings of the answers of one record, and are backed by the bytes sent
pub record Backs (entry : LinkRecord) (group : List BatchTalk) : Type 0 where
  pub first : Speaking
  pub unused : IsUnused first
  pub last : Speaking
  pub leaves : Leaves first group last
  pub records : Records last entry

-- the talks fall into a group for each record, in order
pub data FitRecords : List LinkRecord → List BatchTalk → Type 0 where
  NoLink : FitRecords [] []
  Link : (records : List LinkRecord) (talks group : List BatchTalk) (entry : LinkRecord) → FitRecords records talks
      → Backs entry group → FitRecords (records ++ entry ∷ []) (talks ++ group)

-- and behind them into those of the link that is held
pub record FitHeld (records : List LinkRecord) (talks : List BatchTalk) (now : Speaking) : Type 0 where
  pub earlier : List BatchTalk
  pub fit : FitRecords records earlier
  pub group : List BatchTalk
  pub whole : talks ≡ earlier ++ group
  pub first : Speaking
  pub unused : IsUnused first
  pub speaks : Speaks first group now

abbrev pub FitLinks : List LinkRecord → Option Speaking → List BatchTalk → Type 0
FitLinks records None talks = FitRecords records talks
FitLinks records (Some now) talks = FitHeld records talks now

-- where the spawner told its records before, it tells them now, and the talks fit those that came
abbrev pub FitTold : Option (List LinkRecord) → Option (List LinkRecord) → Option Speaking → List BatchTalk → Type 0
FitTold None told held talks = ⊤
FitTold (Some before) told held talks =
    (records : List LinkRecord) × (told ≡ Some (before ++ records)) × FitLinks records held talks
