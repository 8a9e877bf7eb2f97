-- What the pages of a volume are for.
use Rattle.std.specs.Prelude.{◌≡◌, ℕ, ◌+◌, ◌*◌, ◌/◌, ◌<◌, ◌≤◌, Bool, true, false, cond, List, [], ◌∷◌, Contains, length, slice_index_or}
use Rattle.ci_pages.specs.declared.page_use.PageUse.{PageUse}
use Rattle.ci_pages.specs.declared.page_use.PageUse.TheVariants.{Head, Free, Reserved, Used, Held, Leaving}

abbrev pub is_free : PageUse → Bool
is_free Head = false
is_free Free = true
is_free Reserved = false
is_free Used = false
is_free Held = false
is_free Leaving = false

-- what a page is for; one past the end is no page to be given out
abbrev pub use_of : List PageUse → ℕ → PageUse
use_of uses page = slice_index_or uses page Head

-- the numbers of the free ones, in order, where the first has this number
abbrev pub free_from : List PageUse → ℕ → List ℕ
free_from [] n = []
free_from (use' ∷ uses) n = cond (is_free use') (n ∷ free_from uses (n + 1)) (free_from uses (n + 1))

-- the free pages, in order
abbrev pub free_pages : List PageUse → List ℕ
free_pages uses = free_from uses 0

-- no page from one number up to another is free
abbrev pub NoneFree : List PageUse → ℕ → ℕ → Type 0
NoneFree uses from to = (page : ℕ) → from ≤ page → page < to → is_free (use_of uses page) ≡ false

-- these pages have one use now, and all others what they had
pub record Marks (old new : List PageUse) (pages : List ℕ) (use' : PageUse) : Type 0 where
  pub size : length new ≡ length old
  pub each : (page : ℕ) → Contains pages page → use_of new page ≡ use'
  pub others : (page : ℕ) → ¬ Contains pages page → use_of new page ≡ use_of old page

-- each of these is a page that has the use
abbrev pub AllHave : List PageUse → List ℕ → PageUse → Type 0
AllHave uses pages use' = (page : ℕ) → Contains pages page → use_of uses page ≡ use'

-- each of these is a free page
abbrev pub AllFree : List PageUse → List ℕ → Type 0
AllFree uses pages = (page : ℕ) → Contains pages page → is_free (use_of uses page) ≡ true

-- pages are told in blocks of 512: where a page is free, its block's flag is set
pub record IsFlagged (uses : List PageUse) (flags : List Bool) : Type 0 where
  pub covers : length uses ≤ 512 * length flags
  pub flag : (page : ℕ) → is_free (use_of uses page) ≡ true → slice_index_or flags (page / 512) false ≡ true
