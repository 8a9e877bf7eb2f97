use Rattle.std.proofs.Common.{◌≡◌, ◌<◌, true, false, List, length, Ok, sym, arith}
use Rattle.ci_dialect.specs.declared.restriction.Restriction.{Restriction}
use Rattle.ci_dialect.specs.declared.sign.Sign.{Sign}
use Rattle.ci_dialect.specs.Left.{Left, next}
use Rattle.ci_dialect.specs.Rule as rule
use Rattle.ci_dialect.specs.Rule.{Comes, Rule}
use Rattle.ci_dialect.specs.Step.{sees}
use Rattle.ci_query.specs.Reading.{read, repeated}
use Rattle.ci_query.specs.Repetition.{IsNeverCut}
use Rattle.ci_query.proofs.ComesLemmas.{AreOthers, comes-one, others-come}
use Rattle.ci_query.proofs.EndLemmas.{left-behind}
use Rattle.ci_query.proofs.RepeatLemmas.{length-next}
use Rattle.ci_query.proofs.law.repetition_law.Goals as goal

module _ (s : Sign) (r : Rule) where
  takes-piece : (l m : Left) (tree : Restriction) → sees s l ≡ true → Comes r (next l) (Ok (tree, m)) → length m.pieces < length l.pieces
  takes-piece l m tree seen comes =
      let one = length-next s l seen in
      let less = left-behind r (next l) m (sym (comes-one r (next l) (Ok (tree, m)) comes)) in
      omega arith

  ends-unseen : (l m : Left) (found : List Restriction) → AreOthers s r l (Ok (found, m)) → sees s m ≡ false
  ends-unseen l m found (rule.ends other) = other
  ends-unseen l m found (rule.goes_on {m = n} {trees = trees} is first more) = ends-unseen n m trees more

  never_cut : IsNeverCut s r
  never_cut = record { takes = takes-piece; ends = ends-unseen; comes = λ l. (repeated s (λ m. read r m) l, others-come s r l) }

pub returns : goal.returns
returns c = record { never_cut = never_cut }
