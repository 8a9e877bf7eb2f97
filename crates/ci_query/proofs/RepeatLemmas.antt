-- A rule that is repeated behind a sign.
use Rattle.std.proofs.Common.{◌≡◌, ℕ, zero, suc, ◌+◌, ◌-◌, ◌<◌, ◌≤◌, true, false, List, [], ◌∷◌, ◌++◌, length, drop, Ok, Err, refl, sym, ap, ◌∙◌, subst, append-nil, append_assoc, arith}
use Rattle.std.proofs.lemmas.Bool.{false≢true}
use Rattle.ci_pieces.specs.Cut.{Cut}
use Rattle.ci_dialect.specs.declared.fault.QueryFault.{QueryFault}
use Rattle.ci_dialect.specs.declared.restriction.Restriction.{Restriction}
use Rattle.ci_dialect.specs.declared.sign.Sign.{Sign}
use Rattle.ci_dialect.specs.declared.sign.Sign.TheVariants as sign
use Rattle.ci_dialect.specs.Left.{Left, first_kind, next}
use Rattle.ci_dialect.specs.Step.{Outcome, is, sees}
use Rattle.ci_query.specs.Reading.{Follows, Reader, and_then, pure, turns, ◌>>=◌}

-- ---- a sign that comes next is one of the pieces that are left

one_less : (s : Sign) (pieces : List Cut) → is s (first_kind pieces) ≡ true → suc (length (drop 1 pieces)) ≡ length pieces
one_less sign.Or [] seen = absurd (false≢true seen)
one_less sign.And [] seen = absurd (false≢true seen)
one_less sign.Near [] seen = absurd (false≢true seen)
one_less sign.Close [] seen = absurd (false≢true seen)
one_less s (piece ∷ more) seen = refl

pub length-next : (s : Sign) (l : Left) → sees s l ≡ true → suc (length (next l).pieces) ≡ length l.pieces
length-next s l seen = one_less s l.pieces seen

-- ---- what was read before, and what is read

-- an outcome behind what was read before
abbrev pub prepended : {A : Type 0} → List A → Outcome (List A) → Outcome (List A)
prepended before (Ok read) = Ok (before ++ read.0, read.1)
prepended before (Err fault) = Err fault

prepended-more : {A : Type 0} (before : List A) (x : A) (o : Outcome (List A)) → prepended before (and_then o (λ others. pure (x ∷ others))) ≡ prepended (before ++ x ∷ []) o
prepended-more before x (Ok read) = ap (λ xs. Ok (xs, read.1)) (sym (append_assoc before (x ∷ []) read.0))
prepended-more before x (Err fault) = refl

-- what is known of a repetition, where it is told with a first tree before it
abbrev pub IsTold : Restriction → Outcome (List Restriction) → Outcome (List Restriction) → Type 0
IsTold first o (Ok found) = Follows first o found.0 found.1
IsTold first o (Err fault) = o ≡ Err fault

told : (first : Restriction) (o : Outcome (List Restriction)) → IsTold first o (prepended (first ∷ []) o)
told first (Ok read) = record { others = read.0; all = refl; reads = refl }
told first (Err fault) = refl

pub told-behind : (first : Restriction) (o p : Outcome (List Restriction)) → prepended (first ∷ []) o ≡ p → IsTold first o p
told-behind first o p is = subst (IsTold first o) is (told first o)

module _ {A : Type 0} (s : Sign) (rule : Reader A) where
  pub one_turn : (k : ℕ) (l : Left) → sees s l ≡ true → turns s rule (suc k) l ≡ and_then (rule (next l)) (λ found. turns s rule k >>= (λ others. pure (found ∷ others)))
  one_turn k l is = rw is refl

  pub turns-end : (k : ℕ) (l : Left) → sees s l ≡ false → turns s rule k l ≡ Ok ([], l)
  turns-end zero l other = refl
  turns-end (suc k) l other = rw other refl

  -- ---- where there are turns for all pieces that are left

  -- what a turn reads, and what the others read behind it
  pub turns-read : (k : ℕ) (l m n : Left) (x : A) (xs : List A) → length l.pieces ≤ k → sees s l ≡ true → rule (next l) ≡ Ok (x, m) → length m.pieces ≤ length (next l).pieces
      → ((j : ℕ) → length m.pieces ≤ j → turns s rule j m ≡ Ok (xs, n)) → turns s rule k l ≡ Ok (x ∷ xs, n)
  turns-read zero l m n x xs within is first less others = let one = length-next s l is in absurd (omega arith)
  turns-read (suc k) l m n x xs within is first less others =
      let one = length-next s l is in
      let rest : length m.pieces ≤ k = omega arith in
      one_turn k l is ∙ rw first (rw (others k rest) refl)

  pub turns-this : (k : ℕ) (l : Left) (fault : QueryFault) → length l.pieces ≤ k → sees s l ≡ true → rule (next l) ≡ Err fault → turns s rule k l ≡ Err fault
  turns-this zero l fault within is first = let one = length-next s l is in absurd (omega arith)
  turns-this (suc k) l fault within is first = one_turn k l is ∙ rw first refl

  pub turns-later : (k : ℕ) (l m : Left) (x : A) (fault : QueryFault) → length l.pieces ≤ k → sees s l ≡ true → rule (next l) ≡ Ok (x, m) → length m.pieces ≤ length (next l).pieces
      → ((j : ℕ) → length m.pieces ≤ j → turns s rule j m ≡ Err fault) → turns s rule k l ≡ Err fault
  turns-later zero l m x fault within is first less others = let one = length-next s l is in absurd (omega arith)
  turns-later (suc k) l m x fault within is first less others =
      let one = length-next s l is in
      let rest : length m.pieces ≤ k = omega arith in
      one_turn k l is ∙ rw first (rw (others k rest) refl)

  -- ---- turn by turn

  module _ (whole : Outcome (List A)) (before : List A) (n at : ℕ) (l : Left) where
    -- so far, and what is still to be read
    abbrev pub SoFar : Type 0
    SoFar = whole ≡ prepended before (turns s rule (n - at) l)

    this_turn : at < n → SoFar → whole ≡ prepended before (turns s rule (suc (n - (at + 1))) l)
    this_turn below so_far = let one : n - at ≡ suc (n - (at + 1)) = omega arith in so_far ∙ ap (λ k. prepended before (turns s rule k l)) one

    module _ (m : Left) where
      pub so_far-none : at < n → false ≡ sees s l → m ≡ l → SoFar → whole ≡ Ok (before, m)
      so_far-none below other same so_far =
          this_turn below so_far ∙ ap (prepended before) (turns-end (suc (n - (at + 1))) l (sym other)) ∙ ap (λ xs. Ok (xs, l)) (append-nil before) ∙ ap (λ o. Ok (before, o)) (sym same)

      one_more : at < n → true ≡ sees s l → m ≡ next l → SoFar → whole ≡ prepended before (and_then (rule m) (λ found. turns s rule (n - (at + 1)) >>= (λ others. pure (found ∷ others))))
      one_more below seen step so_far =
          this_turn below so_far
          ∙ ap (prepended before) (one_turn (n - (at + 1)) l (sym seen))
          ∙ ap (λ o. prepended before (and_then (rule o) (λ found. turns s rule (n - (at + 1)) >>= (λ others. pure (found ∷ others))))) (sym step)

      pub so_far-fault : (fault : QueryFault) → at < n → true ≡ sees s l → m ≡ next l → SoFar → rule m ≡ Err fault → whole ≡ Err fault
      so_far-fault fault below seen step so_far refused = one_more below seen step so_far ∙ rw refused refl

      pub so_far-more : (x : A) (rest : Left) → at < n → true ≡ sees s l → m ≡ next l → SoFar → rule m ≡ Ok (x, rest) → whole ≡ prepended (before ++ x ∷ []) (turns s rule (n - (at + 1)) rest)
      so_far-more x rest below seen step so_far first = one_more below seen step so_far ∙ rw first (prepended-more before x (turns s rule (n - (at + 1)) rest))
