-- Batches that are out beside each other.
use Rattle.std.specs.Prelude.{◌≡◌, ⊤, ℕ, true, false, List, [], ◌∷◌}
use Rattle.ci_change.specs.declared.batch.Batch.{Batch}
use Rattle.ci_change.specs.Pending.{has_path, is_out}

-- no path is in two of the batches
abbrev pub AreApart : List Batch → Type 0
AreApart [] = ⊤
AreApart (batch ∷ rest) =
    ((path : List ℕ) → has_path batch.docs path ≡ true → is_out rest path ≡ false) × AreApart rest
