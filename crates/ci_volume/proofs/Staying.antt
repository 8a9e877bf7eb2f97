-- Calls that only read.
use Rattle.std.proofs.Common.{ℕ, Bool, List, ◌∙◌}
use Rattle.ci_volume.specs.Steps.{Stays}
use Rattle.ci_volume.proofs.Moments.{joins, weakens}

-- one after another
pub stays_then : {D : Type 0} (seen : D → List ℕ) (may_leave : D → List ℕ → Type 0) (moment : D → ℕ) (left_since : D → ℕ → List ℕ → Type 0) (honest : D → Bool) (old mid new : D)
    → Stays seen may_leave moment left_since honest old mid → Stays seen may_leave moment left_since honest mid new → Stays seen may_leave moment left_since honest old new
stays_then seen may_leave moment left_since honest old mid new first second = record {
  bytes = second.bytes ∙ first.bytes;
  images = λ image left. first.images image (second.images image left);
  any_moment = joins moment left_since old mid new (may_leave old) first.any_moment (weakens moment left_since mid new (may_leave mid) (may_leave old) first.images second.any_moment);
  honesty = second.honesty ∙ first.honesty;
}
