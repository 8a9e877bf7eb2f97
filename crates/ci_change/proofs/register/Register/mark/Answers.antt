use Rattle.std.proofs.Common.{refl, sym, ap, ◌||◌, ℕ, List, take, bytes_eq, IsTrue, subst}
use Rattle.std.proofs.lemmas.List.{take_all}
use Rattle.ci_base.specs.declared.numbers.Seq.{Seq}
use Rattle.ci_change.specs.Pending.{has_path}
use Rattle.ci_change.specs.Rows.{has_row}
use Rattle.ci_change.proofs.FilterLemmas.{any-next}
use Rattle.ci_change.proofs.MarkLemmas.{IsOwn-marked, Marks-agree, Marks-none, Marks-then}
use Rattle.ci_change.proofs.register.Register.mark.Goals as goal

pub loop-path-init : goal.loop-path-init
loop-path-init c = Marks-none _ _ _ (λ path. refl)

pub mark_path-requires-clause-own : goal.mark_path-requires-clause-own
mark_path-requires-clause-own c = IsOwn-marked _ _ _ _ c.loop-path.invariant _ (c.requires.own _)

pub mark_path-requires-clause-row : goal.mark_path-requires-clause-row
mark_path-requires-clause-row c =
    let row = c.requires.rows c.loop-path.path-index c.loop-path-item.result c.loop-path-test.true in
    c.loop-path.invariant.rows c.loop-path-item.result.0 (subst (λ (d : List ℕ × Seq). IsTrue (has_row c.args.self.now.rows d.0)) (sym c.loop-path-item.is) row)

pub loop-path-preserved : goal.loop-path-preserved
loop-path-preserved c =
    let docs = c.args.docs.now in
    let doc = c.loop-path-item.result in
    let at = c.loop-path.path-index in
    Marks-agree c.args.self.now c.mark_path.new.self (λ path. has_path (take at docs) path || bytes_eq doc.0 path) _ c.args.is_out
    (λ path. sym (any-next (λ (d : List ℕ × Seq). bytes_eq d.0 path) docs at doc doc c.loop-path-item.is c.loop-path-test.true))
    (Marks-then c.args.self.now c.loop-path.self c.mark_path.new.self _ _ c.args.is_out c.loop-path.invariant c.mark_path.ensures)

pub returns : goal.returns
returns c =
    Marks-agree _ _ _ _ _ (λ path. ap (λ docs. has_path docs path) (take_all _ c.args.docs.now c.loop-path-test.false)) c.loop-path.invariant
