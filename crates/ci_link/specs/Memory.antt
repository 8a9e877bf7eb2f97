-- Links in memory, as their contracts see them.
use Rattle.std.specs.Prelude.{◌≡◌, ℕ, List, [], ◌∷◌, length, nat_lt}
use Rattle.ci_link.specs.declared.record.LinkRecord.{LinkRecord}

-- a link without a list of calls that are to fail: the bytes received and those still to come, the bytes sent, the most
-- that all sends take together, and how many calls failed
pub record SureLinkState : Type 0 where
  pub given : List ℕ
  pub left : List ℕ
  pub sent : List ℕ
  pub room : ℕ
  pub faults : ℕ

-- a link with such a list: the numbers of these calls, counted from 0, and how many calls were made
pub record LinkState : Type 0 where
  pub given : List ℕ
  pub left : List ℕ
  pub sent : List ℕ
  pub room : ℕ
  pub fails : List ℕ
  pub calls : ℕ
  pub faults : ℕ

-- no call was made on the link
pub record IsUnused (link : LinkState) : Type 0 where
  pub none_sent : link.sent ≡ []
  pub none_given : link.given ≡ []
  pub no_call : link.calls ≡ 0
  pub no_fault : link.faults ≡ 0

-- a spawner: the links that it has left, the numbers of the starts that are to fail, counted from 0, how many starts
-- were made and how many failed, and the records of the links given back
pub record SpawnerState : Type 0 where
  pub links : List LinkState
  pub fails : List ℕ
  pub calls : ℕ
  pub faults : ℕ
  pub records : List LinkRecord

-- the same of the forms without a list of calls that are to fail
pub record IsSureUnused (link : SureLinkState) : Type 0 where
  pub none_sent : link.sent ≡ []
  pub none_given : link.given ≡ []
  pub no_fault : link.faults ≡ 0

pub record SureSpawnerState : Type 0 where
  pub links : List SureLinkState
  pub records : List LinkRecord

-- a link to a daemon that has ended. 2,048 bytes may still be sent, so that the Init of each path goes out.
abbrev pub ended : SureLinkState
ended = record { given = []; left = []; sent = []; room = 2048; faults = 0 }

-- the links that are still given: where none is left, one that has ended
abbrev pub or_ended : List SureLinkState → List SureLinkState
or_ended [] = ended ∷ []
or_ended (link ∷ links) = link ∷ links

-- what is told of a link that took, gave and has left these bytes, and failed so often
abbrev pub entry_of : List ℕ → List ℕ → List ℕ → ℕ → LinkRecord
entry_of sent given left faults =
    record { sent = sent; given = given; rose = nat_lt 0 faults; more = nat_lt 0 (length left) }
