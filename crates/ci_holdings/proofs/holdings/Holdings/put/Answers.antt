use Rattle.std.proofs.Common.{◌∙◌, subst, sym}
use Rattle.ci_change.specs.declared.notice.What.TheVariants.{Changed}
use Rattle.ci_journal.specs.Step.{MayPut}
use Rattle.ci_journal.specs.declared.event.Happened.TheVariants.{Put}
use Rattle.ci_journal.specs.Tells.{event}
use Rattle.ci_book.specs.Changes.{Puts}
use Rattle.ci_holdings.specs.Core.{Core}
use Rattle.ci_holdings.proofs.KeptLemmas.{IsHolding-placed, IsHolding-stays, IsHolding-tracked, LacksRoom-stays}
use Rattle.ci_holdings.proofs.StepLemmas.{put-kept}
use Rattle.ci_holdings.proofs.holdings.Holdings.put.Goals as goal

pub invariant_of-self : goal.invariant_of-self
invariant_of-self g c =
    (c.self.invariant.0, IsHolding-stays _ _ _ _ c.self.invariant.1 (LacksRoom-stays _ _ _ _ c.in_err-prepare.ensures.refused))

pub invariant_of-self-in_err-entry : goal.invariant_of-self-in_err-entry
invariant_of-self-in_err-entry g c =
    (c.self.invariant.0, IsHolding-stays _ _ _ _ c.self.invariant.1 c.in_ok-prepare.ensures.ok.stays)

pub invariant_of-self-in_err-make_place : goal.invariant_of-self-in_err-make_place
invariant_of-self-in_err-make_place g c =
    (c.self.invariant.0, IsHolding-placed _ _ _ _ _ c.self.invariant.1 c.in_ok-prepare.ensures.ok.stays c.in_err-make_place.ensures.keeps)

pub invariant_of-self-in_err-served : goal.invariant_of-self-in_err-served
invariant_of-self-in_err-served g c =
    let placed = IsHolding-placed _ _ _ _ _ c.self.invariant.1 c.in_ok-prepare.ensures.ok.stays c.in_ok-make_place.ensures.keeps in
    (c.self.invariant.0, IsHolding-tracked _ _ _ _ placed c.in_err-served.ensures.err)

pub invariant_of-self-2 : goal.invariant_of-self-2
invariant_of-self-2 g c =
    let may = subst (λ (core : Core). MayPut core.terms core.sheet.events c.args.by (record { path = c.args.path.now; seq = c.args.seq; what = Changed })) (sym c.self.view_is) c.requires in
    let filled = c.in_ok-entry-2.ensures ∙ c.in_ok-entry.ensures.entry in
    let added = subst (λ path. Puts c.prepare.new.self c.add.new.self (event c.args.by (Put path c.args.seq c.args.transcript))) c.in_ok-copied.ensures c.add.ensures in (
      c.self.invariant.0,
      put-kept _ _ _ c.self.invariant.1 _ _ c.args.by c.args.path.now c.args.seq c.served_of-served.result c.args.transcript c.in_ok-entry-2.entry _ c.make_place.new.documents.entries _ may
          _ c.put_bytes.ensures c.in_ok-prepare.ensures.ok filled c.served_of-served.ensures c.in_ok-served.ensures.ok c.make_place.ensures.keeps c.serve.ensures added,
    )
