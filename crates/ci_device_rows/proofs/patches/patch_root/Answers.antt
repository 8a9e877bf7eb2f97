use Rattle.std.proofs.Common.{arith, ◌≡◌, ℕ, List, [], ◌∷◌, Some, subst}
use Rattle.std.specs.Prelude.{Contains, slice_get}
use Rattle.ci_device_rows.proofs.patches.patch_root.Goals as goal

-- the first of some pages is one of them
first_in : (pages : List ℕ) (page : ℕ) → Some page ≡ slice_get pages 0 → Contains pages page
first_in [] page is = (let none = is in cc)
first_in (first ∷ rest) page is = let same : first ≡ page = (let found = is in cc) in (0, omega arith, same)

pub patch-said-requires-clause-held : goal.patch-said-requires-clause-held
patch-said-requires-clause-held c =
    c.in-Ok.ensures.held.each c.in-Some.page.now (subst (λ pages. Contains pages c.in-Some.page.now) c.root_pages.ensures (first_in _ _ c.in-Some.ensures.value))
