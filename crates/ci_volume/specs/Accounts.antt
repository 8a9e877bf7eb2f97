-- What calls on a volume leave of its account of pages.
use Rattle.std.specs.Prelude.{◌≡◌, ℕ, List, Contains, filter}
use Rattle.ci_pages.specs.declared.page_use.PageUse.TheVariants.{Free, Held}
use Rattle.ci_pages.specs.declared.table.PageTable.{PageTable}
use Rattle.ci_pages.specs.Tables.{IsHeldChain, Relinks, is_unused, turned}
use Rattle.ci_pages.specs.Uses.{Marks, use_of}
use Rattle.ci_volume.specs.Chain.{IsChain}

-- no page has another use, and no chain another page
pub record KeepsTable (old new : PageTable) : Type 0 where
  pub uses : new.uses.pages.items ≡ old.uses.pages.items
  pub links : new.links.items ≡ old.links.items
  pub pending : new.pending.items ≡ old.pending.items

-- the chain that begins at a page and has so many bytes is held now, and nothing else changed
pub record IsHolding (image : List ℕ) (pages first size : ℕ) (old new : PageTable) : Type 0 where
  pub chain : List ℕ
  pub is_chain : IsChain image pages first size chain
  pub marks : Marks old.uses.pages.items new.uses.pages.items chain Held
  pub relinks : Relinks old.links.items new.links.items chain
  pub held : IsHeldChain new.links.items new.uses.pages.items first chain

-- what was held is held
abbrev pub StaysHeld : PageTable → PageTable → Type 0
StaysHeld old new = (page : ℕ) → use_of old.uses.pages.items page ≡ Held → use_of new.uses.pages.items page ≡ Held

-- the pages that were given out since the last commit and are in no run, in order
abbrev pub unused_pages : PageTable → List ℕ
unused_pages table = filter (λ page. is_unused (use_of table.uses.pages.items page)) table.pending.items

-- the account behind a commit: the pages of the old root are free, and each other page is what it turns to
pub record IsTurned (old new : PageTable) (old_root : List ℕ) : Type 0 where
  pub root : (page : ℕ) → Contains old_root page → use_of new.uses.pages.items page ≡ Free
  pub others : (page : ℕ) → ¬ Contains old_root page → use_of new.uses.pages.items page ≡ turned (use_of old.uses.pages.items page)
