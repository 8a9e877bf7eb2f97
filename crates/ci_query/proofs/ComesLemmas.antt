-- What a rule comes to is what is read by it, and nothing else.
use Rattle.std.proofs.Common.{◌≡◌, ℕ, zero, suc, ◌≤◌, true, List, ◌∷◌, length, Ok, Err, refl, sym, ap, ◌∙◌, subst, inl, inr, arith}
use Rattle.std.proofs.lemmas.Bool.{cases_Bool}
use Rattle.ci_dialect.specs.declared.restriction.Restriction.{Restriction}
use Rattle.ci_dialect.specs.declared.sign.Sign.{Sign}
use Rattle.ci_dialect.specs.Left.{Left, next}
use Rattle.ci_dialect.specs.Rule as rule
use Rattle.ci_dialect.specs.Rule.{Comes, Leads, Others, Rule, Give, Fail, Look, Pass, Expect, Piece, Value, Items, Then, Repeat}
use Rattle.ci_dialect.specs.Step.{Outcome, expect, items, piece, sees, value}
use Rattle.ci_query.specs.Reading.{Reader, and_then, pure, read, repeated, turns, ◌>>=◌}
use Rattle.ci_query.proofs.RepeatLemmas.{length-next, one_turn, turns-end, turns-later, turns-read, turns-this}
use Rattle.ci_query.proofs.EndLemmas.{left-behind}

-- ---- one behind the other

module _ {A : Type 0} (One : Outcome A → Type 0) (Other : A → Left → Outcome Restriction → Type 0) (a : Outcome A) (f : A → Reader Restriction) where
  leads-one : ((x : Outcome A) → One x → x ≡ a) → ((x : A) (m : Left) (o : Outcome Restriction) → Other x m o → o ≡ f x m) → (o : Outcome Restriction) → Leads One Other o → o ≡ and_then a f
  leads-one first rest o (rule.fault {f = g} is) = ap (λ x. and_then x f) (first (Err g) is)
  leads-one first rest o (rule.behind {a = x} {m = m} is more) = rest x m o more ∙ ap (λ x. and_then x f) (first (Ok (x, m)) is)

leads-to : {A : Type 0} (One : Outcome A → Type 0) (Other : A → Left → Outcome Restriction → Type 0) (a : Outcome A) (f : A → Reader Restriction)
    → One a → ((x : A) (m : Left) → Other x m (f x m)) → Leads One Other (and_then a f)
leads-to One Other (Ok found) f is more = rule.behind is (more found.0 found.1)
leads-to One Other (Err fault) f is more = rule.fault is

-- ---- repetitions of a rule

module _ (s : Sign) (r : Rule) where
  abbrev pub AreOthers : Left → Outcome (List Restriction) → Type 0
  AreOthers l o = Others s (λ m. Comes r m) l o

  others-one : ((l : Left) (o : Outcome Restriction) → Comes r l o → o ≡ read r l) → (l : Left) (o : Outcome (List Restriction)) → AreOthers l o
      → (k : ℕ) → length l.pieces ≤ k → o ≡ turns s (λ m. read r m) k l
  others-one each l o (rule.ends other) k within = sym (turns-end s (λ m. read r m) k l other)
  others-one each l o (rule.goes_on {m = m} {n = n} {tree = x} {trees = xs} is first more) k within =
      let reads = sym (each (next l) (Ok (x, m)) first) in
      sym (turns-read s (λ m. read r m) k l m n x xs within is reads (left-behind r (next l) m reads) (λ j less. sym (others-one each m (Ok (xs, n)) more j less)))
  others-one each l o (rule.this_fault {f = g} is first) k within = sym (turns-this s (λ m. read r m) k l g within is (sym (each (next l) (Err g) first)))
  others-one each l o (rule.later_fault {m = m} {tree = x} {f = g} is first more) k within =
      let reads = sym (each (next l) (Ok (x, m)) first) in
      sym (turns-later s (λ m. read r m) k l m x g within is reads (left-behind r (next l) m reads) (λ j less. sym (others-one each m (Err g) more j less)))

  module _ (each : (l : Left) → Comes r l (read r l)) where
    behind-first : (l m : Left) (x : Restriction) → sees s l ≡ true → Comes r (next l) (Ok (x, m)) → (o : Outcome (List Restriction)) → AreOthers m o → AreOthers l (and_then o (λ xs. pure (x ∷ xs)))
    behind-first l m x is first (Ok found) more = rule.goes_on is first more
    behind-first l m x is first (Err fault) more = rule.later_fault is first more

    first-turn : (k : ℕ) (l : Left) → sees s l ≡ true → ((m : Left) → length m.pieces ≤ length (next l).pieces → AreOthers m (turns s (λ n. read r n) k m)) → (a : Outcome Restriction) → read r (next l) ≡ a
        → AreOthers l (and_then a (λ x. turns s (λ n. read r n) k >>= (λ xs. pure (x ∷ xs))))
    first-turn k l is more (Ok found) reads =
        behind-first l found.1 found.0 is (subst (λ o. Comes r (next l) o) reads (each (next l))) (turns s (λ n. read r n) k found.1) (more found.1 (left-behind r (next l) found.1 reads))
    first-turn k l is more (Err fault) reads = rule.this_fault is (subst (λ o. Comes r (next l) o) reads (each (next l)))

    others-to : (k : ℕ) (l : Left) → length l.pieces ≤ k → AreOthers l (turns s (λ m. read r m) k l)
    others-to zero l within =
        elim (cases_Bool (sees s l)) [
          | inl is ↦ let one = length-next s l is in absurd (omega arith)
          | inr other ↦ rule.ends other
        ]
    others-to (suc k) l within =
        elim (cases_Bool (sees s l)) [
          | inl is ↦
              let one = length-next s l is in
              subst (AreOthers l) (sym (one_turn s (λ m. read r m) k l is)) (first-turn k l is (λ m less. others-to k m (omega arith)) (read r (next l)) refl)
          | inr other ↦ subst (AreOthers l) (sym (turns-end s (λ m. read r m) (suc k) l other)) (rule.ends other)
        ]

-- ---- all rules

pub comes-one : (r : Rule) (l : Left) (o : Outcome Restriction) → Comes r l o → o ≡ read r l
comes-one (Give tree) l o is = is
comes-one (Fail fault) l o is = is
comes-one (Look rule) l o is = comes-one (rule l) l o is
comes-one (Pass rule) l o is = comes-one rule (next l) o is
comes-one (Expect s rule) l o is = leads-one _ _ (expect s l) (λ sign m. read rule m) (λ x same. same) (λ sign m. comes-one rule m) o is
comes-one (Piece rule) l o is = leads-one _ _ (piece l) (λ p m. read (rule p) m) (λ x same. same) (λ p m. comes-one (rule p) m) o is
comes-one (Value rule) l o is = leads-one _ _ (value l) (λ p m. read (rule p) m) (λ x same. same) (λ p m. comes-one (rule p) m) o is
comes-one (Items rule) l o is = leads-one _ _ (items l) (λ ps m. read (rule ps) m) (λ x same. same) (λ ps m. comes-one (rule ps) m) o is
comes-one (Then rule more) l o is = leads-one _ _ (read rule l) (λ tree m. read (more tree) m) (λ x. comes-one rule l x) (λ tree m. comes-one (more tree) m) o is
comes-one (Repeat s rule more) l o is =
    leads-one _ _ (repeated s (λ m. read rule m) l) (λ trees m. read (more trees) m)
    (λ x others. others-one s rule (λ m. comes-one rule m) l x others (length l.pieces) (omega arith)) (λ trees m. comes-one (more trees) m) o is

pub comes-read : (r : Rule) (l : Left) → Comes r l (read r l)
comes-read (Give tree) l = refl
comes-read (Fail fault) l = refl
comes-read (Look rule) l = comes-read (rule l) l
comes-read (Pass rule) l = comes-read rule (next l)
comes-read (Expect s rule) l = leads-to (λ x. x ≡ expect s l) (λ sign m. Comes rule m) (expect s l) (λ sign m. read rule m) refl (λ sign m. comes-read rule m)
comes-read (Piece rule) l = leads-to (λ x. x ≡ piece l) (λ p m. Comes (rule p) m) (piece l) (λ p m. read (rule p) m) refl (λ p m. comes-read (rule p) m)
comes-read (Value rule) l = leads-to (λ x. x ≡ value l) (λ p m. Comes (rule p) m) (value l) (λ p m. read (rule p) m) refl (λ p m. comes-read (rule p) m)
comes-read (Items rule) l = leads-to (λ x. x ≡ items l) (λ ps m. Comes (rule ps) m) (items l) (λ ps m. read (rule ps) m) refl (λ ps m. comes-read (rule ps) m)
comes-read (Then rule more) l = leads-to (λ x. Comes rule l x) (λ tree m. Comes (more tree) m) (read rule l) (λ tree m. read (more tree) m) (comes-read rule l) (λ tree m. comes-read (more tree) m)
comes-read (Repeat s rule more) l =
    leads-to (AreOthers s rule l) (λ trees m. Comes (more trees) m) (repeated s (λ m. read rule m) l) (λ trees m. read (more trees) m)
    (others-to s rule (λ m. comes-read rule m) (length l.pieces) l (omega arith)) (λ trees m. comes-read (more trees) m)

pub others-come : (s : Sign) (r : Rule) (l : Left) → AreOthers s r l (repeated s (λ m. read r m) l)
others-come s r l = others-to s r (λ m. comes-read r m) (length l.pieces) l (omega arith)
