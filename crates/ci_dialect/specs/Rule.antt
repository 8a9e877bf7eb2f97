-- Rules of a grammar, and what they come to in front of what is left of a query: a tree and what is left behind it, or
-- the first fault. A rule that meets a fault ends there, so that of a whole query the first fault is met.
use Rattle.std.specs.Prelude.{◌≡◌, true, false, List, [], ◌∷◌, Ok, Err}
use Rattle.ci_pieces.specs.Cut.{Cut}
use Rattle.ci_dialect.specs.declared.fault.QueryFault.{QueryFault}
use Rattle.ci_dialect.specs.declared.restriction.Restriction.{Restriction}
use Rattle.ci_dialect.specs.declared.sign.Sign.{Sign}
use Rattle.ci_dialect.specs.Left.{Left, next}
use Rattle.ci_dialect.specs.Step.{Outcome, expect, items, piece, sees, value}

pub data Rule : Type 0 where
  -- a tree or a fault, where nothing more is taken
  Give : Restriction → Rule
  Fail : QueryFault → Rule
  -- the rule that what is left asks for
  Look : (Left → Rule) → Rule
  -- a rule behind the next piece
  Pass : Rule → Rule
  -- a rule behind a sign that has to come next
  Expect : Sign → Rule → Rule
  -- a rule behind a piece, a value or items, which may speak of them
  Piece : (Cut → Rule) → Rule
  Value : (Cut → Rule) → Rule
  Items : (List Cut → Rule) → Rule
  -- a rule behind a rule, which may speak of its tree
  Then : Rule → (Restriction → Rule) → Rule
  -- { sign rule }, and a rule behind it, which may speak of all the trees
  Repeat : Sign → Rule → (List Restriction → Rule) → Rule

-- the one, and behind it the other
pub data Leads {A : Type 0} (One : Outcome A → Type 0) (Other : A → Left → Outcome Restriction → Type 0) : Outcome Restriction → Type 0 where
  fault : {f : QueryFault} → One (Err f) → Leads One Other (Err f)
  behind : {a : A} {m : Left} {o : Outcome Restriction} → One (Ok (a, m)) → Other a m o → Leads One Other o

-- { sign rule }: it ends where the sign doesn't come next, or at the first fault
pub data Others (s : Sign) (One : Left → Outcome Restriction → Type 0) : Left → Outcome (List Restriction) → Type 0 where
  ends : {l : Left} → sees s l ≡ false → Others s One l (Ok ([], l))
  goes_on : {l m n : Left} {tree : Restriction} {trees : List Restriction}
      → sees s l ≡ true → One (next l) (Ok (tree, m)) → Others s One m (Ok (trees, n)) → Others s One l (Ok (tree ∷ trees, n))
  this_fault : {l : Left} {f : QueryFault} → sees s l ≡ true → One (next l) (Err f) → Others s One l (Err f)
  later_fault : {l m : Left} {tree : Restriction} {f : QueryFault}
      → sees s l ≡ true → One (next l) (Ok (tree, m)) → Others s One m (Err f) → Others s One l (Err f)

-- what a rule comes to
abbrev pub Comes : Rule → Left → Outcome Restriction → Type 0
Comes (Give tree) l o = o ≡ Ok (tree, l)
Comes (Fail f) l o = o ≡ Err f
Comes (Look rule) l o = Comes (rule l) l o
Comes (Pass rule) l o = Comes rule (next l) o
Comes (Expect s rule) l o = Leads (λ r. r ≡ expect s l) (λ sign m. Comes rule m) o
Comes (Piece rule) l o = Leads (λ r. r ≡ piece l) (λ p m. Comes (rule p) m) o
Comes (Value rule) l o = Leads (λ r. r ≡ value l) (λ p m. Comes (rule p) m) o
Comes (Items rule) l o = Leads (λ r. r ≡ items l) (λ ps m. Comes (rule ps) m) o
Comes (Then rule more) l o = Leads (λ r. Comes rule l r) (λ tree m. Comes (more tree) m) o
Comes (Repeat s rule more) l o = Leads (λ r. Others s (λ m. Comes rule m) l r) (λ trees m. Comes (more trees) m) o
