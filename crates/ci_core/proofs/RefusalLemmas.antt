-- What a refusal that stands says of further steps.
use Rattle.std.proofs.Common.{◌≡◌, true, Option, Some, None, is_some, refl}
use Rattle.ci_book.specs.declared.core_fault.CoreFault.TheVariants.{Ended}
use Rattle.ci_book.specs.declared.refusal.Refusal.{Refusal}
use Rattle.ci_holdings.specs.Core.{Core}
use Rattle.ci_holdings.specs.Refusals.{IsOver}

-- a step after a refusal changes nothing
pub IsOver-told : (core : Core) → is_some core.refusal ≡ true → IsOver core core Ended
IsOver-told core told = by core.refusal refl told
  where
    by : (refusal : Option Refusal) → core.refusal ≡ refusal → is_some refusal ≡ true → IsOver core core Ended
    by None e told = absurd (cc)
    by (Some refusal) e told = record { ended = refl; refusal = refusal; earlier = e; same = refl }
