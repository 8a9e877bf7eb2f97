use Rattle.std.proofs.Common.{arith, ◌≤◌, ap, refl, subst, sym}
use Rattle.ci_change.specs.HandedIn.{HandedIn}
use Rattle.ci_paths.specs.Numbering.{Numbering}
use Rattle.ci_book.specs.declared.settings.TheConstants.{JOURNAL_MOST}
use Rattle.ci_holdings.proofs.KeptLemmas.{IsHolding-empty}
use Rattle.ci_holdings.proofs.holdings.Holdings.new.Goals as goal

pub invariant_of-result : goal.invariant_of-result
invariant_of-result g c =
    let small = subst (λ limit. limit ≤ JOURNAL_MOST) (sym c.new.ensures.limit) c.args.settings.now.journal_high in (
      ap (λ (n : Numbering). n.limit) c.new-4.ensures,
      IsHolding-empty _ _ _ (record { beginning = refl; whole = refl; retries = λ none. omega (arith, none, c.args.settings.now.retries_low) }) c.new.ensures.events small c.new-2.ensures.empty c.new-5.ensures.items c.new-6.ensures.items c.new-7.ensures (ap (λ (h : HandedIn). h.notices) c.new-3.ensures) (ap (λ (h : HandedIn). h.served) c.new-3.ensures)
          (ap (λ (h : HandedIn). h.charges) c.new-3.ensures) (ap (λ (h : HandedIn). h.refusals) c.new-3.ensures) (ap (λ (h : HandedIn). h.out) c.new-3.ensures) (ap (λ (h : HandedIn). h.retries) c.new-3.ensures) refl refl refl refl refl refl,
    )
