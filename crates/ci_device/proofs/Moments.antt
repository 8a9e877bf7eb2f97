-- How the moments of a disk in memory go on.
use Rattle.std.proofs.Common.{◌≡◌, inl, inr, ◌⊎◌, ⊎_elim, ℕ, zero, suc, ◌≤◌, List, [], ◌∷◌, ◌++◌, length, drop, refl, sym, ap, subst, arith, length-append}
use Rattle.ci_device.specs.Memory.{PlatterState, SureDiskState, IsLeft, IsLeftSince, WasLeft}
use Rattle.ci_device.specs.Time.{Elapses}

keeps : (past : List PlatterState) (p : PlatterState) (image : List ℕ) → WasLeft past image → WasLeft (past ++ p ∷ []) image
keeps [] p image was = absurd was
keeps (q ∷ past) p image (inl here) = inl here
keeps (q ∷ past) p image (inr there) = inr (keeps past p image there)

adds : (past : List PlatterState) (p : PlatterState) (image : List ℕ) → WasLeft (past ++ p ∷ []) image → WasLeft past image ⊎ IsLeft p image
adds [] p image (inl here) = inr here
adds [] p image (inr none) = absurd none
adds (q ∷ past) p image (inl here) = inl (inl here)
adds (q ∷ past) p image (inr there) = ⊎_elim (λ was. inl (inr was)) (λ now. inr now) (adds past p image there)

newest : (past : List PlatterState) (p : PlatterState) (image : List ℕ) → IsLeft p image → WasLeft (past ++ p ∷ []) image
newest [] p image left = inl left
newest (q ∷ past) p image left = inr (newest past p image left)

drop_push : (t : ℕ) (past : List PlatterState) (p : PlatterState) → t ≤ length past → drop t (past ++ p ∷ []) ≡ drop t past ++ p ∷ []
drop_push zero past p le = refl
drop_push (suc t) [] p le = absurd (omega arith)
drop_push (suc t) (q ∷ past) p le = drop_push t past p (omega arith)

-- a call that keeps the platter as one of the past
pub next_moment : (old new : SureDiskState) → new.past ≡ old.past ++ old.platter ∷ []
    → Elapses (length old.past) (length new.past) (IsLeftSince old) (IsLeftSince new) (IsLeft new.platter)
next_moment old new pushed = record {
  later = omega (arith, ap length pushed, length-append old.past (old.platter ∷ []));
  nothing_else = λ t image le since. ⊎_elim (λ now. inr now) (λ was. inl (before t image (adds (drop t old.past) old.platter image (subst (λ past. WasLeft past image) (dropped t le) was)))) since;
  keeps = λ t image le since. inr (subst (λ past. WasLeft past image) (sym (dropped t le)) (⊎_elim (newest (drop t old.past) old.platter image) (keeps (drop t old.past) old.platter image) since));
}
  where
    dropped : (t : ℕ) → t ≤ length old.past → drop t new.past ≡ drop t old.past ++ old.platter ∷ []
    dropped t le = subst (λ past. drop t past ≡ drop t old.past ++ old.platter ∷ []) (sym pushed) (drop_push t old.past old.platter le)

    before : (t : ℕ) (image : List ℕ) → WasLeft (drop t old.past) image ⊎ IsLeft old.platter image → IsLeftSince old t image
    before t image (inl was) = inr was
    before t image (inr now) = inl now
