-- The tree of a text.
use Rattle.std.specs.Prelude.{ℕ, List, Ok}
use Rattle.ci_dialect.specs.declared.restriction.Restriction.{Restriction}
use Rattle.ci_dialect.specs.Grammar.{whole}
use Rattle.ci_dialect.specs.Left.{Left, start}
use Rattle.ci_dialect.specs.Rule.{Comes}

-- the text is a query of this tree, by the grammar
pub record IsTree (noise : List (List ℕ)) (text : List ℕ) (tree : Restriction) : Type 0 where
  pub rest : Left
  pub comes : Comes (whole noise) (start text) (Ok (tree, rest))
