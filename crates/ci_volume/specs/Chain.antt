-- Chains of pages. A page of a chain has the number of the next page, 0 on the last one, and 4,092 bytes of content.
use Rattle.std.specs.Prelude.{◌≡◌, ℕ, ◌+◌, ◌*◌, ◌/◌, ◌<◌, ◌≤◌, List, [], ◌∷◌, Contains, length, take}
use Rattle.std.specs.List.{flat_map}
use Rattle.ci_volume.specs.Layout.{part, number_at, page_bytes}

-- the bytes of content of a page
abbrev pub content_bytes : ℕ
content_bytes = 4092

-- the number of the page that follows in a chain
abbrev pub next_of : List ℕ → ℕ → ℕ
next_of image page = number_at image (page_bytes * page) 4

abbrev pub content_of : List ℕ → ℕ → List ℕ
content_of image page = part image (page_bytes * page + 4) content_bytes

-- a page of a volume of so many pages that may hold a chain, and that lies within the image
pub record IsDataPage (image : List ℕ) (pages page : ℕ) : Type 0 where
  pub data_page : 3 ≤ page
  pub volume : page < pages
  pub within : page_bytes * (page + 1) ≤ length image

-- these pages lead from each to the next, and the last of them ends the chain
abbrev pub Links : List ℕ → ℕ → List ℕ → Type 0
Links image pages [] = ⊥
Links image pages (page ∷ []) = IsDataPage image pages page × (next_of image page ≡ 0)
Links image pages (page ∷ next ∷ rest) =
    IsDataPage image pages page × (next_of image page ≡ next) × Links image pages (next ∷ rest)

-- how many pages a chain of n bytes has
abbrev pub pages_for : ℕ → ℕ
pages_for n = (n + 4091) / 4092

-- the chain that begins at a page and has so many bytes is these pages, in order
pub record IsChain (image : List ℕ) (pages first n : ℕ) (chain : List ℕ) : Type 0 where
  pub links : Links image pages chain
  pub begins : (rest : List ℕ) × (chain ≡ first ∷ rest)
  pub count : length chain ≡ pages_for n

-- the bytes of a chain
abbrev pub chain_bytes : List ℕ → List ℕ → ℕ → List ℕ
chain_bytes image chain n = take n (flat_map (content_of image) chain)

-- the chain that begins at a page is these pages, and has these bytes
pub record HoldsChain (image : List ℕ) (pages first : ℕ) (bytes chain : List ℕ) : Type 0 where
  pub is_chain : IsChain image pages first (length bytes) chain
  pub holds : chain_bytes image chain (length bytes) ≡ bytes

-- these pages are whole in the image, and have what they have in another
abbrev pub SamePages : List ℕ → List ℕ → List ℕ → Type 0
SamePages pages base image = (page : ℕ) → Contains pages page →
    (3 ≤ page) × (page_bytes * (page + 1) ≤ length image)
    × (part image (page_bytes * page) page_bytes ≡ part base (page_bytes * page) page_bytes)

-- these pages lead from the first, each a data page, to a page
abbrev pub Leads : List ℕ → ℕ → ℕ → List ℕ → ℕ → Type 0
Leads image pages first [] page = page ≡ first
Leads image pages first (p ∷ front) page = (p ≡ first) × IsDataPage image pages p × Leads image pages (next_of image p) front page
