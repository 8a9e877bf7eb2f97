-- Which file a daemon's name stands for.
use Rattle.std.specs.Prelude.{ℕ, ◌==◌, List, ◌∷◌, if◌then◌else◌}
use Rattle.std.specs.List.{list_any}

-- a name with a slash (47) is a path; one without is a file of the current folder, as `./NAME`
abbrev pub file_named : List ℕ → List ℕ
file_named name = if list_any (λ b. b == 47) name then name else 46 ∷ 47 ∷ name
