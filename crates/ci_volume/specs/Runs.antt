-- Runs: a chain as it is written, whole page by whole page.
use Rattle.std.specs.Prelude.{ℕ, ◌+◌, ◌-◌, ◌*◌, ◌<◌, List, ◌++◌, length, replicate, slice_index}
use Rattle.byteorder.specs.Endian.{big_bytes}
use Rattle.ci_device.specs.Images.{Holds}
use Rattle.ci_volume.specs.Layout.{page_bytes, part}

-- a page: the number of the next one, content, and 0 behind it
abbrev pub page_of : ℕ → List ℕ → List ℕ
page_of next content = big_bytes 4 next ++ content ++ replicate (4092 - length content) 0

-- these bytes stand in these pages, 4,092 in each but the last, and each page has the number of the next
abbrev pub IsRun : List ℕ → List ℕ → List ℕ → Type 0
IsRun image pages bytes = (i : ℕ) → i < length pages
    → Holds image (page_bytes * slice_index pages i) (page_of (slice_index pages (i + 1)) (part bytes (4092 * i) 4092))
