-- A chain that is let go page by page.
use Rattle.std.proofs.Common.{◌≡◌, ⊎_elim, ℕ, ◌+◌, ◌<◌, ◌≤◌, List, length, get_or, set, take, refl, sym, ap, subst, ◌∙◌, take_all}
use Rattle.std.proofs.lemmas.Bool.{cases_lt}
use Rattle.std.proofs.lemmas.List.{get_or_past}
use Rattle.std.proofs.lemmas.List.Elements.{Contains-get_or}
use Rattle.ci_pages.specs.declared.page_use.PageUse.{PageUse}
use Rattle.ci_pages.specs.declared.page_use.PageUse.TheVariants.{Held, Leaving}
use Rattle.ci_pages.specs.Tables.{IsHeldChain, is_held}
use Rattle.ci_pages.specs.Uses.{Marks, use_of}
use Rattle.ci_pages.proofs.Lists.{not_before, passes_within}
use Rattle.ci_pages.proofs.Marking.{marks_next, marks_none}

-- the first n pages of the chain were let go, and this one is the next
pub record IsLetGo (old now : List PageUse) (chain : List ℕ) (n page : ℕ) : Type 0 where
  pub next : page ≡ get_or chain n 0
  pub more : n < length chain
  pub marks : Marks old now (take n chain) Leaving

module _ (links : List ℕ) (old : List PageUse) (first : ℕ) (chain : List ℕ) (is_held_chain : IsHeldChain links old first chain) where
  pub begun : IsLetGo old old chain 0 first
  begun = record { next = sym is_held_chain.begins; more = is_held_chain.some; marks = marks_none old Leaving }

  -- the next one is still held
  pub still_held : (now : List PageUse) (n page : ℕ) → IsLetGo old now chain n page → use_of now page ≡ Held
  still_held now n page so_far =
      let at = get_or chain n 0 in
      let here : use_of now at ≡ Held = so_far.marks.others at (not_before chain n is_held_chain.once so_far.more) ∙ is_held_chain.held at (Contains-get_or chain n 0 so_far.more) in
      subst (λ p. use_of now p ≡ Held) (sym so_far.next) here

  pub one_more : (now new : List PageUse) (n page : ℕ) → IsLetGo old now chain n page → new ≡ set now page Leaving → Marks old new (take (n + 1) chain) Leaving
  one_more now new n page so_far same =
      let at = get_or chain n 0 in
      let within : at < length old = passes_within is_held old at refl (ap is_held (is_held_chain.held at (Contains-get_or chain n 0 so_far.more))) in
      marks_next old now new chain n Leaving so_far.more so_far.marks within (subst (λ p. new ≡ set now p Leaving) so_far.next same)

  following : (n page : ℕ) → page ≡ get_or chain n 0 → n < length chain → get_or links page 0 ≡ get_or chain (n + 1) 0
  following n page same more = ap (λ p. get_or links p 0) same ∙ is_held_chain.linked n more

  -- where there is a page behind it, the walk goes on
  pub goes_on : (now new : List PageUse) (n page next : ℕ) → IsLetGo old now chain n page → new ≡ set now page Leaving
      → next ≡ get_or links page 0 → (next ≡ 0 → ⊥) → IsLetGo old new chain (n + 1) next
  goes_on now new n page next so_far same link some =
      let place : next ≡ get_or chain (n + 1) 0 = link ∙ following n page so_far.next so_far.more in
      record {
        next = place;
        more = ⊎_elim (λ within. within) (λ past. absurd (some (place ∙ get_or_past chain (n + 1) 0 past))) (cases_lt (n + 1) (length chain));
        marks = one_more now new n page so_far same;
      }

  -- where there is none, all were let go
  pub ends : (now new : List PageUse) (n page next : ℕ) → IsLetGo old now chain n page → new ≡ set now page Leaving
      → next ≡ get_or links page 0 → next ≡ 0 → Marks old new chain Leaving
  ends now new n page next so_far same link none =
      let place : get_or chain (n + 1) 0 ≡ 0 = sym (link ∙ following n page so_far.next so_far.more) ∙ none in
      let all : length chain ≤ n + 1 = ⊎_elim (λ within. absurd (is_held_chain.pages (n + 1) within place)) (λ past. past) (cases_lt (n + 1) (length chain)) in
      subst (λ xs. Marks old new xs Leaving) (take_all (n + 1) chain all) (one_more now new n page so_far same)
