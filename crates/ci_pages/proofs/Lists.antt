-- Lists of pages by their use, and what a change of some uses leaves of them.
use Rattle.std.proofs.Common.{◌≡◌, ◌⊎◌, inl, inr, ⊎_elim, ℕ, zero, suc, ◌<◌, ◌≤◌, Bool, true, false, List, [], ◌∷◌, ◌++◌, Contains, count_by, length, get_or, map, set, replicate, ◌-◌, take, refl, sym, ap, subst, ◌∙◌, arith, eqb-true, true≢false}
use Rattle.std.proofs.lemmas.Bool.{cases_lt}
use Rattle.std.proofs.lemmas.List.{get_or_default, get_or_past, get_or-replicate, length-map, length-replicate, same_lists}
use Rattle.std.proofs.lemmas.List.Elements.{Contains-append_cases, Contains-append_left, Contains-append_right, Contains-get_or}
use Rattle.std.proofs.lemmas.Map.Views.{Contains-from_any, list_any-from_Contains}
use Rattle.std.specs.Cmp.{nat_eq_equiv}
use Rattle.ci_pages.specs.declared.page_use.PageUse.{PageUse}
use Rattle.ci_pages.specs.declared.page_use.PageUse.TheVariants.{Head, Free, Reserved, Used, Held, Leaving}
use Rattle.ci_pages.specs.Tables.{AllData, IsListOf, IsHeaded, IsOnce, is_head, is_leaving, is_pending, is_unused, new_uses, turned}
use Rattle.ci_pages.specs.Uses.{AllFree, Marks, is_free, use_of}
use Rattle.ci_pages.proofs.Counting.{count_none, count_same}
use Rattle.ci_pages.proofs.Marking.{contains_or}

-- these are just the pages whose use passes a test, told by what the list contains
pub record Listed (test : PageUse → Bool) (uses : List PageUse) (pages : List ℕ) : Type 0 where
  pub only : (page : ℕ) → Contains pages page → test (use_of uses page) ≡ true
  pub all : (page : ℕ) → test (use_of uses page) ≡ true → Contains pages page

pub opens : (test : PageUse → Bool) (uses : List PageUse) (pages : List ℕ) → IsListOf test uses pages → Listed test uses pages
opens test uses pages is_list = record {
  only = λ page contained.
      let place : get_or pages contained.0 0 ≡ page = get_or_default pages contained.0 0 page contained.1 ∙ contained.2 in
      subst (λ p. test (use_of uses p) ≡ true) place (is_list.only contained.0 contained.1);
  all = λ page is_so. Contains-from_any eqb-true page pages (is_list.all page is_so);
}

pub closes : (test : PageUse → Bool) (uses : List PageUse) (pages : List ℕ) → Listed test uses pages → IsListOf test uses pages
closes test uses pages listed = record {
  only = λ i within. listed.only (get_or pages i 0) (Contains-get_or pages i 0 within);
  all = λ page is_so. list_any-from_Contains nat_eq_equiv page pages (listed.all page is_so);
}

module _ (test : PageUse → Bool) (old new : List PageUse) (pages : List ℕ) (to : PageUse) (marks : Marks old new pages to) where
  -- pages that pass now are listed behind those that passed
  grown : (list : List ℕ) → test to ≡ true → Listed test old list → Listed test new (list ++ pages)
  grown list passes is_list = record {
    only = λ page contained. now page contained;
    all = λ page is_so. ⊎_elim
        (λ here. Contains-append_right list pages page here)
        (λ not. Contains-append_left list pages page (is_list.all page (sym (ap test (marks.others page not)) ∙ is_so)))
        (contains_or pages page);
  }
    where
      now : (page : ℕ) → Contains (list ++ pages) page → test (use_of new page) ≡ true
      now page contained = elim (contains_or pages page) [
        | inl here ↦ ap test (marks.each page here) ∙ passes
        | inr not ↦ ap test (marks.others page not) ∙ is_list.only page (⊎_elim (λ was. was) (λ here. absurd (not here)) (Contains-append_cases list pages page contained))
      ]

  pub list_grows : (list : List ℕ) → test to ≡ true → IsListOf test old list → IsListOf test new (list ++ pages)
  list_grows list passes is_list = closes test new (list ++ pages) (grown list passes (opens test old list is_list))

  same_test : ((page : ℕ) → Contains pages page → test (use_of old page) ≡ test to) → (page : ℕ) → test (use_of new page) ≡ test (use_of old page)
  same_test same page = elim (contains_or pages page) [
    | inl here ↦ ap test (marks.each page here) ∙ sym (same page here)
    | inr not ↦ ap test (marks.others page not)
  ]

  -- where the test doesn't see the change, the list stays, and how many pass
  pub list_stays : (list : List ℕ) → ((page : ℕ) → Contains pages page → test (use_of old page) ≡ test to) → IsListOf test old list → IsListOf test new list
  list_stays list same given = let is_list = opens test old list given in closes test new list record {
    only = λ page contained. same_test same page ∙ is_list.only page contained;
    all = λ page is_so. is_list.all page (sym (same_test same page) ∙ is_so);
  }

  pub count_stays : ((page : ℕ) → Contains pages page → test (use_of old page) ≡ test to) → count_by test new ≡ count_by test old
  count_stays same = count_same test new old marks.size (same_test same)

-- a free page is none that was given out, and none that is leaving
free_passes : (test : PageUse → Bool) (use' : PageUse) → test Free ≡ false → is_free use' ≡ true → test use' ≡ false
free_passes test Head none is_so = absurd (true≢false (sym is_so))
free_passes test Free none is_so = none
free_passes test Reserved none is_so = absurd (true≢false (sym is_so))
free_passes test Used none is_so = absurd (true≢false (sym is_so))
free_passes test Held none is_so = absurd (true≢false (sym is_so))
free_passes test Leaving none is_so = absurd (true≢false (sym is_so))

pub free_fails : (test : PageUse → Bool) (uses : List PageUse) (pages : List ℕ) → test Free ≡ false → AllFree uses pages
    → (page : ℕ) → Contains pages page → test (use_of uses page) ≡ false
free_fails test uses pages none all page contained = free_passes test (use_of uses page) none (all page contained)

turned_pending : (use' : PageUse) → is_pending (turned use') ≡ false
turned_pending Head = refl
turned_pending Free = refl
turned_pending Reserved = refl
turned_pending Used = refl
turned_pending Held = refl
turned_pending Leaving = refl

turned_leaving : (use' : PageUse) → is_leaving (turned use') ≡ false
turned_leaving Head = refl
turned_leaving Free = refl
turned_leaving Reserved = refl
turned_leaving Used = refl
turned_leaving Held = refl
turned_leaving Leaving = refl

pub use_of_turned : (uses : List PageUse) (page : ℕ) → use_of (map turned uses) page ≡ turned (use_of uses page)
use_of_turned [] page = refl
use_of_turned (u ∷ us) zero = refl
use_of_turned (u ∷ us) (suc page) = use_of_turned us page

none_listed : (test : PageUse → Bool) (uses : List PageUse) → ((page : ℕ) → test (use_of uses page) ≡ false) → IsListOf test uses []
none_listed test uses none = record {
  only = λ i within. absurd (omega (arith, within));
  all = λ page is_so. absurd (true≢false (sym is_so ∙ none page));
}

pub none_pending : (uses : List PageUse) → IsListOf is_pending (map turned uses) []
none_pending uses = none_listed is_pending (map turned uses) (λ page. ap is_pending (use_of_turned uses page) ∙ turned_pending (use_of uses page))

pub none_leaving : (uses : List PageUse) → IsListOf is_leaving (map turned uses) []
none_leaving uses = none_listed is_leaving (map turned uses) (λ page. ap is_leaving (use_of_turned uses page) ∙ turned_leaving (use_of uses page))

pub count_leaving : (uses : List PageUse) → count_by is_leaving (map turned uses) ≡ 0
count_leaving uses = count_none is_leaving (map turned uses) (λ page. ap is_leaving (use_of_turned uses page) ∙ turned_leaving (use_of uses page))

-- each use by whether it is pending or leaving
turned_from : (use' : PageUse) → ((is_pending use' ≡ true) × (turned use' ≡ Held) × (is_leaving use' ≡ false))
    ⊎ (((is_leaving use' ≡ true) × (turned use' ≡ Free)) ⊎ ((is_pending use' ≡ false) × (is_leaving use' ≡ false) × (turned use' ≡ use')))
turned_from Head = inr (inr (refl, refl, refl))
turned_from Free = inr (inr (refl, refl, refl))
turned_from Reserved = inl (refl, refl, refl)
turned_from Used = inl (refl, refl, refl)
turned_from Held = inr (inr (refl, refl, refl))
turned_from Leaving = inr (inl (refl, refl))

-- those given out are held, those let go are free, and all others stay
pub turns : (old mid new : List PageUse) (pending leaving : List ℕ) → IsListOf is_pending old pending → IsListOf is_leaving old leaving
    → Marks old mid pending Held → Marks mid new leaving Free → new ≡ map turned old
turns old mid new pending leaving pending_are leaving_are holds frees =
    same_lists new (map turned old) (omega (arith, holds.size, frees.size, length-map old turned)) (λ page d within. at page d within)
  where
    are_pending : Listed is_pending old pending
    are_pending = opens is_pending old pending pending_are

    are_leaving : Listed is_leaving old leaving
    are_leaving = opens is_leaving old leaving leaving_are

    is_turned : (page : ℕ) → use_of new page ≡ turned (use_of old page)
    is_turned page = elim (turned_from (use_of old page)) [
      | inl given ↦
          let not_leaving : ¬ Contains leaving page = λ contained. true≢false (sym (are_leaving.only page contained) ∙ given.2) in
          frees.others page not_leaving ∙ holds.each page (are_pending.all page given.0) ∙ sym given.1
      | inr (inl left) ↦ frees.each page (are_leaving.all page left.0) ∙ sym left.1
      | inr (inr other) ↦
          let not_leaving : ¬ Contains leaving page = λ contained. true≢false (sym (are_leaving.only page contained) ∙ other.1) in
          let not_pending : ¬ Contains pending page = λ contained. true≢false (sym (are_pending.only page contained) ∙ other.0) in
          frees.others page not_leaving ∙ holds.others page not_pending ∙ sym other.2
    ]

    at : (page : ℕ) (d : PageUse) → page < length new → get_or new page d ≡ get_or (map turned old) page d
    at page d within =
        get_or_default new page d Head within ∙ is_turned page ∙ sym (use_of_turned old page)
        ∙ get_or_default (map turned old) page Head d (omega (arith, within, holds.size, frees.size, length-map old turned))

-- a page that stands before stands once
pub not_before : (xs : List ℕ) (i : ℕ) → IsOnce xs → i < length xs → ¬ Contains (take i xs) (get_or xs i 0)
not_before [] i once within contained = absurd (omega (arith, within))
not_before (x ∷ xs) zero once within (k, below, same) = absurd (omega (arith, below))
not_before (x ∷ xs) (suc i) once within (zero, below, same) =
    once.0 (subst (Contains xs) (sym same) (Contains-get_or xs i 0 (omega (arith, within))))
not_before (x ∷ xs) (suc i) once within (suc k, below, same) = not_before xs i once.1 (omega (arith, within)) (k, omega (arith, below), same)

-- a page whose use passes a test that the head doesn't is one
pub passes_within : (test : PageUse → Bool) (uses : List PageUse) (page : ℕ) → test Head ≡ false → test (use_of uses page) ≡ true → page < length uses
passes_within test uses page none is_so = elim (cases_lt page (length uses)) [
  | inl within ↦ within
  | inr past ↦ absurd (true≢false (sym is_so ∙ ap test (get_or_past uses page Head past) ∙ none))
]

pub only_one : (page other : ℕ) → Contains (page ∷ []) other → other ≡ page
only_one page other (zero, below, same) = sym same
only_one page other (suc k, below, same) = absurd (omega (arith, below))

from_replicate : (test : PageUse → Bool) (n i : ℕ) → test Head ≡ false → test Free ≡ false → test (use_of (replicate n Free) i) ≡ false
from_replicate test zero i head free' = head
from_replicate test (suc n) zero head free' = free'
from_replicate test (suc n) (suc i) head free' = from_replicate test n i head free'

new_fails : (test : PageUse → Bool) (pages i : ℕ) → test Head ≡ false → test Free ≡ false → test (use_of (new_uses pages) i) ≡ false
new_fails test pages zero head free' = head
new_fails test pages (suc zero) head free' = head
new_fails test pages (suc (suc zero)) head free' = head
new_fails test pages (suc (suc (suc i))) head free' = from_replicate test (pages - 3) i head free'

pub new_listed : (test : PageUse → Bool) (pages : ℕ) → test Head ≡ false → test Free ≡ false → IsListOf test (new_uses pages) []
new_listed test pages head free' = none_listed test (new_uses pages) (λ i. new_fails test pages i head free')

pub new_count : (test : PageUse → Bool) (pages : ℕ) → test Head ≡ false → test Free ≡ false → count_by test (new_uses pages) ≡ 0
new_count test pages head free' = count_none test (new_uses pages) (λ i. new_fails test pages i head free')

pub set_heads : (pages : ℕ) → 3 ≤ pages → set (set (set (replicate pages Free) 0 Head) 1 Head) 2 Head ≡ new_uses pages
set_heads pages le =
    let n = pages - 3 in
    let size : pages ≡ suc (suc (suc n)) = omega (arith, le) in
    ap (λ m. set (set (set (replicate m Free) 0 Head) 1 Head) 2 Head) size

pub length_new : (pages : ℕ) → 3 ≤ pages → length (new_uses pages) ≡ pages
length_new pages le = omega (arith, le, length-replicate (pages - 3) Free)

free_in_replicate : (n i : ℕ) → i < n → is_free (use_of (replicate n Free) i) ≡ true
free_in_replicate n i within = ap is_free (get_or-replicate n i Free Head within)

free_in_new : (pages page : ℕ) → 3 ≤ page → page < pages → is_free (use_of (new_uses pages) page) ≡ true
free_in_new pages zero le below = absurd (omega (arith, le))
free_in_new pages (suc zero) le below = absurd (omega (arith, le))
free_in_new pages (suc (suc zero)) le below = absurd (omega (arith, le))
free_in_new pages (suc (suc (suc i))) le below = free_in_replicate (pages - 3) i (omega (arith, below))

pub all_free_new : (pages : ℕ) (list : List ℕ) → AllData pages list → AllFree (new_uses pages) list
all_free_new pages list data' page contained = let at = data' page contained in free_in_new pages page at.0 at.1

-- the head stays where other pages get a use
pub heads_stay : (old new : List PageUse) (pages : List ℕ) (to : PageUse) → Marks old new pages to
    → ((page : ℕ) → Contains pages page → is_head (use_of old page) ≡ false) → IsHeaded old → IsHeaded new
heads_stay old new pages to marks others headed page below = elim (contains_or pages page) [
  | inl here ↦ absurd (true≢false (sym (headed page below) ∙ others page here))
  | inr not ↦ ap is_head (marks.others page not) ∙ headed page below
]

free_no_head : (use' : PageUse) → is_free use' ≡ true → is_head use' ≡ false
free_no_head Head is_so = absurd (true≢false (sym is_so))
free_no_head Free is_so = refl
free_no_head Reserved is_so = refl
free_no_head Used is_so = refl
free_no_head Held is_so = refl
free_no_head Leaving is_so = refl

pub free_no_heads : (uses : List PageUse) (pages : List ℕ) → AllFree uses pages → (page : ℕ) → Contains pages page → is_head (use_of uses page) ≡ false
free_no_heads uses pages all page contained = free_no_head (use_of uses page) (all page contained)

turned_head : (use' : PageUse) → is_head (turned use') ≡ is_head use'
turned_head Head = refl
turned_head Free = refl
turned_head Reserved = refl
turned_head Used = refl
turned_head Held = refl
turned_head Leaving = refl

pub heads_turn : (uses : List PageUse) → IsHeaded uses → IsHeaded (map turned uses)
heads_turn uses headed page below = ap is_head (use_of_turned uses page) ∙ turned_head (use_of uses page) ∙ headed page below

pub heads_new : (pages : ℕ) → IsHeaded (new_uses pages)
heads_new pages zero below = refl
heads_new pages (suc zero) below = refl
heads_new pages (suc (suc zero)) below = refl
heads_new pages (suc (suc (suc i))) below = absurd (omega (arith, below))

-- a page that isn't of the head lies behind it
pub behind_head : (uses : List PageUse) (page : ℕ) → IsHeaded uses → is_head (use_of uses page) ≡ false → 3 ≤ page
behind_head uses page headed isnt = elim (cases_lt page 3) [
  | inl below ↦ absurd (true≢false (sym (headed page below) ∙ isnt))
  | inr le ↦ le
]

-- what was given out and is in no run is reserved
pub unused_reserved : (use' : PageUse) → is_unused use' ≡ true → use' ≡ Reserved
unused_reserved Head is_so = absurd (true≢false (sym is_so))
unused_reserved Free is_so = absurd (true≢false (sym is_so))
unused_reserved Reserved is_so = refl
unused_reserved Used is_so = absurd (true≢false (sym is_so))
unused_reserved Held is_so = absurd (true≢false (sym is_so))
unused_reserved Leaving is_so = absurd (true≢false (sym is_so))

-- a page that is held isn't one that was given out
pub held_apart : (uses : List PageUse) (given held : List ℕ) → ((page : ℕ) → Contains given page → use_of uses page ≡ Reserved)
    → ((page : ℕ) → Contains held page → use_of uses page ≡ Held) → (page : ℕ) → Contains held page → ¬ Contains given page
held_apart uses given held reserved are_held page contained here =
    true≢false (sym (ap is_pending (reserved page here)) ∙ ap is_pending (are_held page contained))
