-- A prefix is the root or a path. It holds the documents that stand at it or under it.
use Rattle.std.specs.Prelude.{◌≡◌, ◌||◌, ◌++◌, ◌⊎◌, ℕ, Bool, true, List, [], ◌∷◌, bytes_eq, codes, nat_eq, if◌then◌else◌}
use Rattle.std.specs.List.{starts_with}
use Rattle.ci_base.specs.Path.{IsPath}
use Rattle.ci_paths.specs.declared.prefix.Prefix.{Prefix}
use Rattle.ci_paths.specs.declared.prefix.Prefix.TheVariants.{Root, At}

-- a text spells a prefix: it is a slash alone, or a path
abbrev pub IsPrefix : List ℕ → Type 0
IsPrefix text = (text ≡ codes "/") ⊎ IsPath text

-- the prefix that a text spells
abbrev pub prefix_of : List ℕ → Prefix
prefix_of text = if bytes_eq text (codes "/") then Root else At text

-- a path is that of the top, or goes on behind it with a slash
abbrev pub is_at_or_under : List ℕ → List ℕ → Bool
is_at_or_under path top = bytes_eq path top || starts_with nat_eq path (top ++ 47 ∷ [])

-- a path stands under a prefix; under the root all do
abbrev pub stands_under : Prefix → List ℕ → Bool
stands_under Root path = true
stands_under (At top) path = is_at_or_under path top
