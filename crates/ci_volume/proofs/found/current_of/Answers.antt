use Rattle.std.proofs.Common.{ℕ, Option, Some, sym, subst}
use Rattle.ci_volume.specs.Found.{IsSlotOf}
use Rattle.ci_volume.specs.Layout.{IsLesser}
use Rattle.ci_volume.specs.declared.slot.Slot.{Slot}
use Rattle.ci_volume.proofs.Writes.{the_other}
use Rattle.ci_volume.proofs.found.current_of.Goals as goal

pub returns-then-is_lesser : goal.returns-then-is_lesser
returns-then-is_lesser c image which other head which_le other_le apart found beside =
    let slot = c.in-Some.slot in
    let lesser : IsLesser image other slot.generation = (c.is_lesser.ensures image other beside).0 c.if-is_lesser.true in
    let fields : IsSlotOf image which (Some slot) = subst (λ (s : Option Slot). IsSlotOf image which s) c.in-Some.is found.fields in
    record {
      marked = head.0;
      long = head.1;
      open_ = found.gate.0 c.if-not-found.false;
      within = fields.0;
      fields = sym fields.1;
      other = λ b b_le b_apart. subst (λ (w : ℕ). IsLesser image w slot.generation) (the_other which other b which_le other_le (λ same. apart (sym same)) b_le b_apart) lesser;
    }
