-- What stands in an image that opens, for a change of generation to begin with.
use Rattle.std.proofs.Common.{◌≡◌, ◌↔◌, ⊎_elim, ℕ, ◌-◌, Bool, true, false, IsTrue, List, Contains, get_or, refl, sym, subst, ◌∙◌, arith, true≢false}
use Rattle.std.proofs.lemmas.List.{get_or_default}
use Rattle.ci_volume.specs.declared.told.Current.{Current}
use Rattle.ci_volume.specs.Chain.{IsDataPage, SamePages}
use Rattle.ci_volume.specs.Found.{IsTold}
use Rattle.ci_volume.specs.Layout.{IsCurrent, IsLesser, IsOpen}
use Rattle.ci_volume.specs.Opening.{Opens}
use Rattle.ci_volume.specs.Steps.{IsBeside, StandsBeside}
use Rattle.ci_volume.proofs.Holding.{links_at}

beside_of : (b : Bool) (image : List ℕ) (which generation : ℕ) → (IsTrue b ↔ IsOpen image which) → IsLesser image which generation → IsBeside b which generation image
beside_of true image which generation told lesser = ⊎_elim
    (λ shut. absurd (shut (told.0 refl)))
    (λ less. record { within = less.0; lesser = less.1 })
    lesser
beside_of false image which generation told lesser = λ is_open. absurd (true≢false (sym (told.1 is_open)))

pub ready_of : (image : List ℕ) (current : Current) (root : List ℕ) → IsTold image current → Opens image current.which current.slot root
    → StandsBeside current.may_be_open (1 - current.which) current.slot root image image
ready_of image current root told opens = record {
  stands = record {
    current = subst (λ (w : ℕ). IsCurrent image w current.slot) (omega (arith, told.number)) told.current;
    kept = kept;
  };
  beside = beside_of current.may_be_open image (1 - current.which) current.slot.generation told.beside (told.current.other (1 - current.which) (omega arith) (λ same. omega (arith, same, told.number)));
}
  where
    data_page : (page : ℕ) → Contains root page → IsDataPage image current.slot.pages page
    data_page page contained =
        let place : get_or root contained.0 0 ≡ page = get_or_default root contained.0 0 page contained.1 ∙ contained.2 in
        subst (λ (p : ℕ). IsDataPage image current.slot.pages p) place (links_at image current.slot.pages root opens.chain.links contained.0 contained.1)

    kept : SamePages root image image
    kept page contained = let at = data_page page contained in (at.data_page, at.within, refl)
