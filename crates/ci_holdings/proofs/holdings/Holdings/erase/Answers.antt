use Rattle.std.proofs.Common.{subst, sym}
use Rattle.ci_journal.specs.Step.{MayErase}
use Rattle.ci_journal.specs.declared.event.Happened.TheVariants.{Erased}
use Rattle.ci_journal.specs.Tells.{event}
use Rattle.ci_book.specs.Changes.{Puts}
use Rattle.ci_holdings.specs.Core.{Core}
use Rattle.ci_holdings.proofs.DeletionLemmas.{erasing-counts}
use Rattle.ci_holdings.proofs.KeptLemmas.{IsHolding-stays, IsHolding-tracked, LacksRoom-stays}
use Rattle.ci_holdings.proofs.StepLemmas.{erased-kept}
use Rattle.ci_holdings.proofs.holdings.Holdings.erase.Goals as goal

pub invariant_of-self : goal.invariant_of-self
invariant_of-self g c =
    (c.self.invariant.0, IsHolding-stays _ _ _ _ c.self.invariant.1 (LacksRoom-stays _ _ _ _ c.in_err-prepare.ensures.refused))

pub invariant_of-self-in_err-copied : goal.invariant_of-self-in_err-copied
invariant_of-self-in_err-copied g c =
    (c.self.invariant.0, IsHolding-stays _ _ _ _ c.self.invariant.1 c.in_ok-prepare.ensures.ok.stays)

pub invariant_of-self-in_err-served : goal.invariant_of-self-in_err-served
invariant_of-self-in_err-served g c =
    (c.self.invariant.0, IsHolding-tracked _ _ _ _ (IsHolding-stays _ _ _ _ c.self.invariant.1 c.in_ok-prepare.ensures.ok.stays) c.in_err-served.ensures.err)

pub invariant_of-self-2 : goal.invariant_of-self-2
invariant_of-self-2 g c =
    let may = subst (λ (core : Core). MayErase core.terms core.sheet.events c.args.path.now c.args.seq) (sym c.self.view_is) c.requires in (
      c.self.invariant.0,
      erased-kept _ _ _ c.self.invariant.1 _ _ c.args.by c.args.path.now c.args.seq _ _ may (erasing-counts _ _ _ c.self.invariant.1.tracks c.args.path.now c.args.seq may) _ c.erased_bytes.ensures c.in_ok-prepare.ensures.ok c.in_ok-served.ensures.ok c.take_away.ensures
          (subst (λ path. Puts c.prepare.new.self c.add.new.self (event c.args.by (Erased path c.args.seq))) c.in_ok-copied.ensures c.add.ensures),
    )
