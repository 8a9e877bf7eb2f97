-- The chunks that are made of any file, without their numbers.
use Rattle.std.specs.Prelude.{ℕ, pos, ◌==◌, List, length}
use Rattle.std.specs.List.{after_last}
use Rattle.ci_base.specs.declared.value.Value.TheVariants.{Int, Str}
use Rattle.ci_filters.specs.Contents.{Item}
use Rattle.ci_filters.specs.declared.content.Content.TheVariants.{Words, Held}

-- what stands behind a path's last slash
abbrev pub last_part : List ℕ → List ℕ
last_part path = after_last (λ b. b == 47) path

-- Filename: the path's last part
abbrev pub filename : List ℕ → Item
filename path = record { property = record { 0 = 2 }; content = Held (Str (last_part path)) }

-- Size: how many bytes were read of the file
abbrev pub size_of : ℕ → Item
size_of count = record { property = record { 0 = 3 }; content = Held (Int (pos count)) }

abbrev pub size : List ℕ → Item
size bytes = size_of (length bytes)

-- Contents: a text
abbrev pub contents : List ℕ → Item
contents text = record { property = record { 0 = 1 }; content = Words text }
