-- The first fault of a text that is no query.
use Rattle.std.specs.Prelude.{ℕ, List, Err}
use Rattle.ci_dialect.specs.declared.fault.QueryFault.{QueryFault}
use Rattle.ci_dialect.specs.Grammar.{whole}
use Rattle.ci_dialect.specs.Left.{start}
use Rattle.ci_dialect.specs.Rule.{Comes}

-- this is the first fault that the grammar meets in the text
pub record IsFirstFault (noise : List (List ℕ)) (text : List ℕ) (fault : QueryFault) : Type 0 where
  pub comes : Comes (whole noise) (start text) (Err fault)
