-- How rules are read: what a function of the reader ensures.
use Rattle.std.specs.Prelude.{◌≡◌, ◌≢◌, ℕ, zero, suc, List, [], ◌∷◌, length, Result, Ok, Err, if◌then◌else◌}
use Rattle.std.specs.Global.{Vec}
use Rattle.ci_dialect.specs.declared.fault.QueryFault.{QueryFault}
use Rattle.ci_dialect.specs.declared.fault.QueryFault.TheVariants.{OutOfMemory}
use Rattle.ci_dialect.specs.declared.restriction.Restriction.{Restriction}
use Rattle.ci_dialect.specs.declared.sign.Sign.{Sign}
use Rattle.ci_dialect.specs.Left.{Left, next}
use Rattle.ci_dialect.specs.Rule.{Rule, Give, Fail, Look, Pass, Expect, Piece, Value, Items, Then, Repeat}
use Rattle.ci_dialect.specs.Step.{Outcome, expect, items, piece, sees, value}

abbrev pub Reader : Type 0 → Type 0
Reader A = Left → Outcome A

abbrev pub and_then : {A B : Type 0} → Outcome A → (A → Reader B) → Outcome B
and_then (Ok p) f = f p.0 p.1
and_then (Err fault) f = Err fault

infixl 10 ◌>>=◌
abbrev pub ◌>>=◌ : {A B : Type 0} → Reader A → (A → Reader B) → Reader B
r >>= f = λ l. and_then (r l) f

abbrev pub pure : {A : Type 0} → A → Reader A
pure a = λ l. Ok (a, l)

-- { sign rule }. Each turn takes a piece, so no more turns come than there are pieces.
abbrev pub turns : {A : Type 0} → Sign → Reader A → ℕ → Reader (List A)
turns s rule zero = pure []
turns s rule (suc n) = λ l.
    if sees s l then (rule >>= (λ found. turns s rule n >>= (λ others. pure (found ∷ others)))) (next l) else Ok ([], l)

abbrev pub repeated : {A : Type 0} → Sign → Reader A → Reader (List A)
repeated s rule = λ l. turns s rule (length l.pieces) l

-- what is read by a rule
abbrev pub read : Rule → Reader Restriction
read (Give tree) l = Ok (tree, l)
read (Fail fault) l = Err fault
read (Look rule) l = read (rule l) l
read (Pass rule) l = read rule (next l)
read (Expect s rule) l = and_then (expect s l) (λ sign m. read rule m)
read (Piece rule) l = and_then (piece l) (λ p m. read (rule p) m)
read (Value rule) l = and_then (value l) (λ p m. read (rule p) m)
read (Items rule) l = and_then (items l) (λ ps m. read (rule ps) m)
read (Then rule more) l = and_then (read rule l) (λ tree m. read (more tree) m)
read (Repeat s rule more) l = and_then (repeated s (λ m. read rule m) l) (λ trees m. read (more trees) m)

-- ---- what a function that reads by a rule ensures: the rule's outcome, unless memory fails

abbrev pub Reads : {A : Type 0} → Outcome A → Result A QueryFault → Left → Type 0
Reads outcome (Ok a) new = outcome ≡ Ok (a, new)
Reads outcome (Err fault) new = fault ≢ OutOfMemory → outcome ≡ Err fault

-- the same of a value that takes no piece
abbrev pub Gives : {A : Type 0} → Result A QueryFault → Result A QueryFault → Type 0
Gives expected (Ok a) = expected ≡ Ok a
Gives expected (Err fault) = fault ≢ OutOfMemory → expected ≡ Err fault

-- the trees that a repetition reads stand behind a first one
pub record Follows (first : Restriction) (outcome : Outcome (List Restriction)) (list : List Restriction) (new : Left) : Type 0 where
  pub others : List Restriction
  pub all : list ≡ first ∷ others
  pub reads : outcome ≡ Ok (others, new)

-- the same of a repetition behind a first tree
abbrev pub ReadsList : Restriction → Outcome (List Restriction) → Result (Vec Restriction) QueryFault → Left → Type 0
ReadsList first outcome (Ok list) new = Follows first outcome list.items new
ReadsList first outcome (Err fault) new = fault ≢ OutOfMemory → outcome ≡ Err fault
