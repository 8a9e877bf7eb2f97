use Rattle.std.specs.Prelude.{◌≡◌}
use Rattle.std.specs.Vec.Iter.{into_iter_items}
use Rattle.ci_book.specs.declared.core_fault.CoreFault.{CoreFault}
use Rattle.ci_holdings.specs.Core.{Core}
use Rattle.ci_core.specs.Fixed.{KeepsFixed}
use Rattle.ci_play.specs.Played.{Played, PlayedUntil}
use Rattle.ci_play.proofs.steps.play_all.Given as goal

abbrev pub invariant-loop-step : goal.invariant-loop-step
invariant-loop-step g l = record {
  comes : (new : Core) → Played l.catalog (into_iter_items l.step-iterator) new → Played l.fn.catalog l.fn.steps.items new;
  halts : (new : Core) (fault : CoreFault) → PlayedUntil l.catalog (into_iter_items l.step-iterator) new fault → PlayedUntil l.fn.catalog l.fn.steps.items new fault;
  unrefused : l.catalog.refusal ≡ l.fn.catalog.refusal;
  fixed : KeepsFixed l.fn.catalog l.catalog;
}
