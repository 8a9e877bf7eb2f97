-- How a run of calls on a disk goes on.
use Rattle.std.proofs.Common.{inl, inr, ⊎_elim, ℕ, ◌≤◌, List, arith}
use Rattle.ci_device.specs.Time.{Elapses, LeavesOnly}

module _ {D : Type 0} (moment : D → ℕ) (left_since : D → ℕ → List ℕ → Type 0) where
  -- before the first call
  pub started : (old : D) (P : List ℕ → Type 0) → ((image : List ℕ) → left_since old (moment old) image → P image)
      → LeavesOnly moment left_since old old P
  started old P here = record { later = omega arith; each = here; before = λ t image le left. inl left }

  -- one call more, behind which a stop leaves what has P
  pub goes_on : (old mid new : D) (P images : List ℕ → Type 0) → LeavesOnly moment left_since old mid P
      → Elapses (moment mid) (moment new) (left_since mid) (left_since new) images
      → ((image : List ℕ) → images image → P image) → LeavesOnly moment left_since old new P
  goes_on old mid new P images so_far time here = record {
    later = omega (arith, so_far.later, time.later);
    each = λ image left. ⊎_elim (so_far.each image) (here image) (time.nothing_else (moment old) image so_far.later left);
    before = λ t image le left. ⊎_elim (so_far.before t image le) (λ now. inr (here image now)) (time.nothing_else t image (omega (arith, le, so_far.later)) left);
  }

  -- what has P has Q
  pub weakens : (old new : D) (P Q : List ℕ → Type 0) → ((image : List ℕ) → P image → Q image)
      → LeavesOnly moment left_since old new P → LeavesOnly moment left_since old new Q
  weakens old new P Q implies leaves = record {
    later = leaves.later;
    each = λ image left. implies image (leaves.each image left);
    before = λ t image le left. ⊎_elim (λ was. inl was) (λ now. inr (implies image now)) (leaves.before t image le left);
  }

  -- one run and then another
  pub joins : (old mid new : D) (P : List ℕ → Type 0) → LeavesOnly moment left_since old mid P → LeavesOnly moment left_since mid new P
      → LeavesOnly moment left_since old new P
  joins old mid new P first second = record {
    later = omega (arith, first.later, second.later);
    each = λ image left. ⊎_elim (first.each image) (λ now. now) (second.before (moment old) image first.later left);
    before = λ t image le left. ⊎_elim (first.before t image le) (λ now. inr now) (second.before t image (omega (arith, le, first.later)) left);
  }

  -- what a stop leaves behind a run
  pub behind : (may_leave : D → List ℕ → Type 0) → ((disk : D) (t : ℕ) (image : List ℕ) → t ≤ moment disk → may_leave disk image → left_since disk t image)
      → (old new : D) (P : List ℕ → Type 0) → LeavesOnly moment left_since old new P → (image : List ℕ) → may_leave new image → P image
  behind may_leave counts_now old new P leaves image left = leaves.each image (counts_now new (moment old) image leaves.later left)
