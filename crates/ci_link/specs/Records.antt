-- What a spawner tells of the links that were given back to it.
use Rattle.ci_link.specs.declared.record.LinkRecord.{LinkRecord}
use Rattle.std.specs.Prelude.{◌≡◌, ℕ, Bool, List, [], ◌∷◌, ◌++◌, Option, Some, None, IfSome, IsSome, nat_lt}

-- the record of a link of this state, where the link tells all of it
abbrev pub record_of : Option (List ℕ) → Option (List ℕ) → Option Bool → ℕ → Option LinkRecord
record_of (Some sent) (Some given) (Some more) faults =
    Some (record { sent = sent; given = given; rose = nat_lt 0 faults; more = more })
record_of _ _ _ faults = None

-- the records that are told, with one more
abbrev pub with_record : Option (List LinkRecord) → Option LinkRecord → Option (List LinkRecord)
with_record (Some records) (Some entry) = Some (records ++ entry ∷ [])
with_record _ _ = None

-- nothing was sent or received yet, where the link tells it, and no call failed
pub record IsFresh (sent given : Option (List ℕ)) (faults : ℕ) : Type 0 where
  pub none_sent : IfSome sent (λ bytes. bytes ≡ [])
  pub none_given : IfSome given (λ bytes. bytes ≡ [])
  pub no_fault : faults ≡ 0

-- a link tells all that a record of it has
pub record IsTold (sent given : Option (List ℕ)) (more : Option Bool) : Type 0 where
  pub told_sent : IsSome sent
  pub told_given : IsSome given
  pub told_more : IsSome more
