-- The pages of a volume and the chains that stand in them.
use Rattle.std.specs.Prelude.{◌≡◌, ◌≢◌, ℕ, ◌+◌, ◌-◌, ◌<◌, ◌≤◌, Bool, true, false, List, [], ◌∷◌, Contains, IsTrue, length, nat_eq, replicate, slice_index}
use Rattle.std.specs.List.{list_any}
use Rattle.ci_pages.specs.declared.page_use.PageUse.{PageUse}
use Rattle.ci_pages.specs.declared.page_use.PageUse.TheVariants.{Head, Free, Reserved, Used, Held, Leaving}
use Rattle.ci_pages.specs.Uses.{AllHave, use_of}

-- given out since the last commit
abbrev pub is_pending : PageUse → Bool
is_pending Head = false
is_pending Free = false
is_pending Reserved = true
is_pending Used = true
is_pending Held = false
is_pending Leaving = false

-- given out since the last commit, and in no run
abbrev pub is_unused : PageUse → Bool
is_unused Head = false
is_unused Free = false
is_unused Reserved = true
is_unused Used = false
is_unused Held = false
is_unused Leaving = false

abbrev pub is_leaving : PageUse → Bool
is_leaving Head = false
is_leaving Free = false
is_leaving Reserved = false
is_leaving Used = false
is_leaving Held = false
is_leaving Leaving = true

abbrev pub is_held : PageUse → Bool
is_held Head = false
is_held Free = false
is_held Reserved = false
is_held Used = false
is_held Held = true
is_held Leaving = false

abbrev pub is_head : PageUse → Bool
is_head Head = true
is_head Free = false
is_head Reserved = false
is_head Used = false
is_head Held = false
is_head Leaving = false

-- the first three pages hold no chain
abbrev pub IsHeaded : List PageUse → Type 0
IsHeaded uses = (page : ℕ) → page < 3 → is_head (use_of uses page) ≡ true

-- a new volume: the head and the two slots, and free pages behind them
abbrev pub new_uses : ℕ → List PageUse
new_uses pages = Head ∷ Head ∷ Head ∷ replicate (pages - 3) Free

-- each of these is a page of a volume of so many that may hold a chain
abbrev pub AllData : ℕ → List ℕ → Type 0
AllData pages list = (page : ℕ) → Contains list page → (3 ≤ page) × (page < pages)

-- what a page is for in the next generation: what was written is held, and what was let go is free
abbrev pub turned : PageUse → PageUse
turned Head = Head
turned Free = Free
turned Reserved = Held
turned Used = Held
turned Held = Held
turned Leaving = Free

-- these are just the pages whose use passes a test
pub record IsListOf (test : PageUse → Bool) (uses : List PageUse) (pages : List ℕ) : Type 0 where
  pub only : (i : ℕ) → i < length pages → test (use_of uses (slice_index pages i)) ≡ true
  pub all : (page : ℕ) → test (use_of uses page) ≡ true → IsTrue (list_any (nat_eq page) pages)

-- no number stands twice
abbrev pub IsOnce : List ℕ → Type 0
IsOnce [] = Unit {0}
IsOnce (x ∷ xs) = (¬ Contains xs x) × IsOnce xs

-- each of these pages leads to the next, and the last to none, which is 0
abbrev pub IsLinked : List ℕ → List ℕ → Type 0
IsLinked links chain = (i : ℕ) → i < length chain → slice_index links (slice_index chain i) ≡ slice_index chain (i + 1)

-- only the links of these pages changed
pub record Relinks (old new : List ℕ) (chain : List ℕ) : Type 0 where
  pub size : length new ≡ length old
  pub linked : IsLinked new chain
  pub others : (page : ℕ) → ¬ Contains chain page → slice_index new page ≡ slice_index old page

-- the chain that begins at a page is held, and wasn't let go
pub record IsHeldChain (links : List ℕ) (uses : List PageUse) (first : ℕ) (chain : List ℕ) : Type 0 where
  pub begins : slice_index chain 0 ≡ first
  pub some : 0 < length chain
  pub linked : IsLinked links chain
  pub held : AllHave uses chain Held
  pub once : IsOnce chain
  pub pages : (i : ℕ) → i < length chain → slice_index chain i ≢ 0
