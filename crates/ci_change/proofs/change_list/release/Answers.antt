use Rattle.std.proofs.Common.{◌≡◌, ◌==◌, ◌+◌, ◌&&◌, ap, sym, refl, subst, ◌∙◌, arith, true, false, List, ℕ, take, get_or, bytes_eq}
use Rattle.std.proofs.lemmas.Bool.Decides.{nat_tests}
use Rattle.std.proofs.lemmas.List.{take_all}
use Rattle.std.proofs.lemmas.List.Folds.{list_any_at}
use Rattle.ci_base.specs.declared.numbers.Seq.{Seq}
use Rattle.ci_change.specs.declared.batch.Batch.{Batch}
use Rattle.ci_change.specs.HandedIn.{numbered}
use Rattle.ci_change.specs.Pending.{has_path, is_out}
use Rattle.ci_change.specs.Register.{Kept, Marks}
use Rattle.ci_change.proofs.MarkLemmas.{IsOwn-marked, Marks-agree, Marks-batch, Marks-none}
use Rattle.ci_change.proofs.UnservedLemmas.{bytes_eq-same}
use Rattle.ci_change.proofs.change_list.release.Goals as goal
use Rattle.ci_change.proofs.change_list.release.Goals.{then-batch-number, else-batch-number}

pub mark-requires-clause-own : goal.mark-requires-clause-own
mark-requires-clause-own c path = IsOwn-marked _ _ _ _ c.loop-batch.invariant path (c.requires.own path)

pub mark-requires-clause-rows : goal.mark-requires-clause-rows
mark-requires-clause-rows c k d within =
    let docs = c.items.result.now in
    let path = (get_or docs k d).0 in
    let here = list_any_at (λ (e : List ℕ × Seq). bytes_eq e.0 path) docs k d within (bytes_eq-same path) in
    let has = ap (λ (b : Batch). has_path b.docs path) (sym c.batch-item.is) ∙ ap (λ ds. has_path ds path) (sym c.items.ensures) ∙ here in
    c.loop-batch.invariant.rows path (c.requires.rows path (list_any_at (λ (b : Batch). has_path b.docs path) c.args.out.now c.loop-batch.batch-index c.batch-item.result c.loop-batch-test.true has))

pub loop-batch-init : goal.loop-batch-init
loop-batch-init c = Marks-none _ _ _ (λ path. refl)

pub loop-batch-preserved : goal.loop-batch-preserved
loop-batch-preserved c = elim c.if-batch-number.branch [
  | then-batch-number w ↦
      let same = w.if-batch-number.true in
      let is : (c.batch-item.result.number == c.args.number) ≡ true = grind (arith, nat_tests, same) in
      let marks = Marks-agree _ _ _ (λ path. true && has_path c.batch-item.result.docs path) false (λ path. ap (λ ds. has_path ds path) w.items.ensures) w.mark.ensures in
      subst (λ (k : Kept). Marks c.args.register.now k (is_out (numbered c.args.number (take (c.loop-batch.batch-index + 1) c.args.out.now))) false) (sym w.register-is)
      (Marks-batch _ _ _ c.args.out.now c.args.number c.loop-batch.batch-index c.batch-item.result true c.batch-item.is c.loop-batch-test.true is c.loop-batch.invariant marks)
  | else-batch-number w ↦
      let other = w.if-batch-number.false in
      let is : (c.batch-item.result.number == c.args.number) ≡ false = grind (arith, nat_tests, other) in
      subst (λ (k : Kept). Marks c.args.register.now k (is_out (numbered c.args.number (take (c.loop-batch.batch-index + 1) c.args.out.now))) false) (sym w.register-is)
      (Marks-batch _ _ _ c.args.out.now c.args.number c.loop-batch.batch-index c.batch-item.result false c.batch-item.is c.loop-batch-test.true is c.loop-batch.invariant
      (Marks-none c.loop-batch.register _ false (λ path. refl)))
]

pub returns : goal.returns
returns c =
    Marks-agree _ _ _ _ _ (λ path. ap (λ bs. is_out (numbered c.args.number bs) path) (take_all _ c.args.out.now c.loop-batch-test.false)) c.loop-batch.invariant
