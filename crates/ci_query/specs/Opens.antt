-- Function values that read by rules.
use Rattle.std.specs.Prelude.{ℕ, List, Result}
use Rattle.std.specs.declared.alloc.Global.{Global}
use denote.Ref.{Bor, MutBor}
use Rattle.ci_dialect.specs.declared.fault.QueryFault.{QueryFault}
use Rattle.ci_dialect.specs.declared.restriction.Restriction.{Restriction}
use Rattle.ci_dialect.specs.declared.sign.Opener.{Opener}
use Rattle.ci_dialect.specs.Grammar.{opened}
use Rattle.ci_dialect.specs.Left.{Left}
use Rattle.ci_dialect.specs.Rule.{Rule}
use Rattle.ci_query.specs.Reading.{Reads, read}

-- it may be called, and it reads by the rule
pub record ReadsBy (rule : Rule)
    (pre : MutBor Left → Type 0)
    (post : MutBor Left → Result Restriction QueryFault → MutBor Left → Type 0) : Type 0 where
  pub callable : (old : MutBor Left) → pre old
  pub reads : (old new : MutBor Left) (r : Result Restriction QueryFault) → post old r new → Reads (read rule old.now) r new.now

-- it may be called, and it reads what stands behind an opening sign
pub record Opens (depth : ℕ)
    (pre : Global → Bor (List (List ℕ)) → MutBor Left → ℕ → Opener → Type 0)
    (post : Global → Bor (List (List ℕ)) → MutBor Left → ℕ → Opener → Result Restriction QueryFault → MutBor Left → Type 0) : Type 0 where
  pub callable : (alloc : Global) (noise : Bor (List (List ℕ))) (old : MutBor Left) (by : Opener) → pre alloc noise old depth by
  pub reads : (alloc : Global) (noise : Bor (List (List ℕ))) (old new : MutBor Left) (by : Opener) (r : Result Restriction QueryFault) → post alloc noise old depth by r new
      → Reads (read (opened noise.now depth by) old.now) r new.now
