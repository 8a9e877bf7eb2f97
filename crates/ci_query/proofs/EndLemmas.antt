-- How rules end, whichever they are: behind what was read no more pieces are left, its tree is of a form, and its fault
-- may be met.
use Rattle.std.proofs.Common.{◌≡◌, ℕ, zero, suc, ◌≤◌, true, false, List, [], ◌∷◌, length, Option, Some, None, Ok, Err, IsSome, if◌then◌else◌, refl, subst, arith}
use Rattle.std.specs.Bool.{⊤}
use Rattle.std.specs.List.{AllByRecursion}
use Rattle.std.proofs.lemmas.List.{length-drop}
use Rattle.ci_base.specs.declared.numbers.PropNo.{PropNo}
use Rattle.ci_pieces.specs.declared.piece.PieceKind.{PieceKind}
use Rattle.ci_pieces.specs.declared.piece.PieceKind.TheVariants as kind
use Rattle.ci_pieces.specs.Cut.{Cut}
use Rattle.ci_dialect.specs.declared.fault.QueryFault.{QueryFault}
use Rattle.ci_dialect.specs.declared.fault.QueryFault.TheVariants.{Bad, TooLong}
use Rattle.ci_dialect.specs.declared.restriction.Restriction.{Restriction}
use Rattle.ci_dialect.specs.declared.sign.Sign.{Sign}
use Rattle.ci_dialect.specs.Fault.{met_in}
use Rattle.ci_dialect.specs.Left.{Left, ahead, next, place}
use Rattle.ci_dialect.specs.Rule.{Rule, Give, Fail, Look, Pass, Expect, Piece, Value, Items, Then, Repeat}
use Rattle.ci_dialect.specs.Step.{Outcome, counted, expect, first_of, items, items_of, piece, sees, too_long, value, value_by}
use Rattle.ci_dialect.specs.WellFormed.{IsTerm, IsWellFormed}
use Rattle.ci_query.specs.Reading.{Reader, and_then, pure, read, repeated, turns, ◌>>=◌}

-- forms of trees: any, well formed ones, terms of a property
pub data Form : Type 0 where
  Any : Form
  Well : Form
  Term : PropNo → Form

abbrev pub IsOf : Form → Restriction → Type 0
IsOf Any tree = ⊤
IsOf Well tree = IsWellFormed tree
IsOf (Term property) tree = IsTerm property tree

abbrev IsAny : {A : Type 0} → A → Type 0
IsAny x = ⊤

next-less : (l : Left) → length (next l).pieces ≤ length l.pieces
next-less l = let size = length-drop 1 l.pieces in omega arith

module _ (MayBe : QueryFault → Type 0) where
  -- all trees that a rule gives are of the form, and all its faults may be
  abbrev pub Keeps : Rule → Form → Type 0
  Keeps (Give tree) form = IsOf form tree
  Keeps (Fail fault) form = MayBe fault
  Keeps (Look rule) form = (l : Left) → Keeps (rule l) form
  Keeps (Pass rule) form = Keeps rule form
  Keeps (Expect s rule) form = Keeps rule form
  Keeps (Piece rule) form = (p : Cut) → Keeps (rule p) form
  Keeps (Value rule) form = (p : Cut) → Keeps (rule p) form
  Keeps (Items rule) form = (ps : List Cut) → Keeps (rule ps) form
  Keeps (Then rule more) form = (one : Form) × Keeps rule one × ((tree : Restriction) → IsOf one tree → Keeps (more tree) form)
  Keeps (Repeat s rule more) form = (one : Form) × Keeps rule one × ((trees : List Restriction) → AllByRecursion (IsOf one) trees → Keeps (more trees) form)

  -- what was read is so, and no more is left behind it; or the fault may be
  abbrev pub Ends : {A : Type 0} → (A → Type 0) → Left → Outcome A → Type 0
  Ends P l (Ok found) = P found.0 × (length found.1.pieces ≤ length l.pieces)
  Ends P l (Err fault) = MayBe fault

  ends-behind : {A : Type 0} (P : A → Type 0) (l m : Left) (o : Outcome A) → length m.pieces ≤ length l.pieces → Ends P m o → Ends P l o
  ends-behind P l m (Ok found) less ends = let more = ends.1 in (ends.0, omega arith)
  ends-behind P l m (Err fault) less ends = ends

  ends-then : {A B : Type 0} (Q : A → Type 0) (P : B → Type 0) (l : Left) (a : Outcome A) (f : A → Reader B) → Ends Q l a → ((x : A) (m : Left) → Q x → Ends P m (f x m)) → Ends P l (and_then a f)
  ends-then Q P l (Ok found) f first rest = ends-behind P l found.1 (f found.0 found.1) first.1 (rest found.0 found.1 first.0)
  ends-then Q P l (Err fault) f first rest = first

  turns-end : {A : Type 0} (s : Sign) (P : A → Type 0) (rule : Reader A) → ((l : Left) → Ends P l (rule l)) → (k : ℕ) (l : Left) → Ends (AllByRecursion P) l (turns s rule k l)
  turns-end s P rule each zero l = (tt, omega arith)
  turns-end s P rule each (suc k) l =
      elim (sees s l) as (λ b. Ends (AllByRecursion P) l (if b then (rule >>= (λ found. turns s rule k >>= (λ others. pure (found ∷ others)))) (next l) else Ok ([], l))) [
        | true ↦
            ends-behind (AllByRecursion P) l (next l) _ (next-less l)
            (ends-then P (AllByRecursion P) (next l) (rule (next l)) _ (each (next l))
            (λ x m one. ends-then (AllByRecursion P) (AllByRecursion P) m (turns s rule k m) _ (turns-end s P rule each k m) (λ xs n others. ((one, others), omega arith))))
        | false ↦ (tt, omega arith)
      ]

  -- ---- what is taken, where faults of a text may be

  module _ (met : (fault : QueryFault) → IsSome (met_in fault) → MayBe fault) where
    first_of-ends : (pieces : List Cut) (l : Left) → Ends IsAny l (first_of pieces l)
    first_of-ends [] l = met _ refl
    first_of-ends (piece ∷ more) l = (tt, next-less l)

    value_by-ends : (k : Option PieceKind) (l : Left) → Ends IsAny l (value_by k l)
    value_by-ends (Some kind.Quoted) l = first_of-ends l.pieces l
    value_by-ends (Some kind.Bare) l = first_of-ends l.pieces l
    value_by-ends _ l = met _ refl

    expect-ends : (s : Sign) (l : Left) → Ends IsAny l (expect s l)
    expect-ends s l =
        elim (sees s l) as (λ b. Ends {A = Unit {0}} IsAny l (if b then Ok (tt, next l) else Err (Bad (place l)))) [
          | true ↦ (tt, next-less l)
          | false ↦ met _ refl
        ]

    counted-ends : (many : Option ℕ) (found : List Cut) (l : Left) → Ends IsAny l (counted many found l)
    counted-ends (Some at) found l = met (TooLong at) refl
    counted-ends None found l = let size = length-drop (length found) l.pieces in (tt, omega arith)

    pub ends : (r : Rule) (form : Form) → Keeps r form → (l : Left) → Ends (IsOf form) l (read r l)
    ends (Give tree) form keeps l = (keeps, omega arith)
    ends (Fail fault) form keeps l = keeps
    ends (Look rule) form keeps l = ends (rule l) form (keeps l) l
    ends (Pass rule) form keeps l = ends-behind (IsOf form) l (next l) (read rule (next l)) (next-less l) (ends rule form keeps (next l))
    ends (Expect s rule) form keeps l = ends-then IsAny (IsOf form) l (expect s l) (λ sign m. read rule m) (expect-ends s l) (λ sign m any. ends rule form keeps m)
    ends (Piece rule) form keeps l = ends-then IsAny (IsOf form) l (piece l) (λ p m. read (rule p) m) (first_of-ends l.pieces l) (λ p m any. ends (rule p) form (keeps p) m)
    ends (Value rule) form keeps l = ends-then IsAny (IsOf form) l (value l) (λ p m. read (rule p) m) (value_by-ends (ahead l) l) (λ p m any. ends (rule p) form (keeps p) m)
    ends (Items rule) form keeps l =
        ends-then IsAny (IsOf form) l (items l) (λ ps m. read (rule ps) m) (counted-ends (too_long l.words (items_of l.pieces)) (items_of l.pieces) l) (λ ps m any. ends (rule ps) form (keeps ps) m)
    ends (Then rule more) form keeps l =
        ends-then (IsOf keeps.0) (IsOf form) l (read rule l) (λ tree m. read (more tree) m) (ends rule keeps.0 keeps.1 l) (λ tree m one. ends (more tree) form (keeps.2 tree one) m)
    ends (Repeat s rule more) form keeps l =
        ends-then (AllByRecursion (IsOf keeps.0)) (IsOf form) l (repeated s (λ m. read rule m) l) (λ trees m. read (more trees) m)
        (turns-end s (IsOf keeps.0) (λ m. read rule m) (ends rule keeps.0 keeps.1) (length l.pieces) l) (λ trees m all. ends (more trees) form (keeps.2 trees all) m)

-- ---- where any fault may be, and any tree

keeps-any : (r : Rule) → Keeps (λ fault. ⊤) r Any
keeps-any (Give tree) = tt
keeps-any (Fail fault) = tt
keeps-any (Look rule) = λ l. keeps-any (rule l)
keeps-any (Pass rule) = keeps-any rule
keeps-any (Expect s rule) = keeps-any rule
keeps-any (Piece rule) = λ p. keeps-any (rule p)
keeps-any (Value rule) = λ p. keeps-any (rule p)
keeps-any (Items rule) = λ ps. keeps-any (rule ps)
keeps-any (Then rule more) = (Any, keeps-any rule, λ tree any. keeps-any (more tree))
keeps-any (Repeat s rule more) = (Any, keeps-any rule, λ trees all. keeps-any (more trees))

-- behind what was read no more is left
pub left-behind : (r : Rule) (l m : Left) {tree : Restriction} → read r l ≡ Ok (tree, m) → length m.pieces ≤ length l.pieces
left-behind r l m is = (subst (λ o. Ends (λ fault. ⊤) (IsOf Any) l o) is (ends (λ fault. ⊤) (λ fault met. tt) r Any (keeps-any r) l)).1
