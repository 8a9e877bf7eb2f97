use Rattle.std.proofs.Common.{rules, not, filter, ◌≡◌, ◌==◌, false, sym, subst, List}
use Rattle.std.proofs.lemmas.Fn.{filter_same}
use Rattle.ci_change.specs.declared.batch.Batch.{Batch}
use Rattle.ci_change.specs.ChangeList.{IsMarked}
use Rattle.ci_change.specs.HandedIn.{numbered}
use Rattle.ci_change.specs.Pending.{is_out}
use Rattle.ci_change.specs.Register.{Marks}
use Rattle.ci_change.proofs.HandedInLemmas.{given_back}
use Rattle.ci_change.proofs.OutLemmas.{IsMarked-given, IsUpToDate-marked, own_notices}
use Rattle.ci_change.proofs.change_list.ChangeList.give_back.Goals as goal

kept : (c : goal.After-retain) → c.retain.new.self.items ≡ filter (λ b. not (b.number == c.args.batch.now.number)) c.self.inside.out.items
kept c = filter_same _ (λ b. not (b.number == c.args.batch.now.number)) _ (λ b r f call. search rules) _ _ c.retain.ensures.filtered

pub returns : goal.returns
returns c = given_back c.args.self.now c.self.inside.past c.self.inside.out.items _ c.self.inside.retries c.args.batch.now.number c.self.view_is (kept c)

pub release-requires-clause-own : goal.release-requires-clause-own
release-requires-clause-own c = own_notices c.self.inside.past c.self.inside.register c.self.inside.retries c.self.invariant.0

pub invariant_of-self : goal.invariant_of-self
invariant_of-self c =
    let number = c.args.batch.now.number in
    let marks = subst (λ (bs : List Batch). Marks c.self.inside.register c.release.new.register (is_out (numbered number bs)) false) c.as_slice.ensures.value c.release.ensures in (
      IsUpToDate-marked c.self.inside.past c.self.inside.register c.self.inside.retries c.self.invariant.0 c.release.new.register _ _ marks,
      subst (λ (bs : List Batch). IsMarked c.release.new.register bs) (sym (kept c)) (IsMarked-given c.self.inside.register c.release.new.register c.self.inside.out.items c.self.invariant.1 number marks),
    )
