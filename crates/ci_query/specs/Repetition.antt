-- Repetitions `{ sign rule }` end where their sign doesn't come next, and not for want of a turn.
use Rattle.std.specs.Prelude.{◌≡◌, ◌<◌, true, false, List, length, Ok}
use Rattle.ci_dialect.specs.declared.restriction.Restriction.{Restriction}
use Rattle.ci_dialect.specs.declared.sign.Sign.{Sign}
use Rattle.ci_dialect.specs.Left.{Left, next}
use Rattle.ci_dialect.specs.Rule.{Comes, Others, Rule}
use Rattle.ci_dialect.specs.Step.{Outcome, sees}

pub record IsNeverCut (s : Sign) (rule : Rule) : Type 0 where
  -- each turn takes a piece at least
  pub takes : (l m : Left) (tree : Restriction) → sees s l ≡ true → Comes rule (next l) (Ok (tree, m)) → length m.pieces < length l.pieces
  -- behind what was read no sign of the kind comes next
  pub ends : (l m : Left) (found : List Restriction) → Others s (λ n. Comes rule n) l (Ok (found, m)) → sees s m ≡ false
  -- a repetition comes to something, however long it is
  pub comes : (l : Left) → (o : Outcome (List Restriction)) × Others s (λ n. Comes rule n) l o
