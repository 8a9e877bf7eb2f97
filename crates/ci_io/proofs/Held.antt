-- The held bytes of a buffer: those between two places of a longer list.
use Rattle.std.proofs.Common.{◌≡◌, ℕ, ◌+◌, ◌≤◌, List, ◌++◌, length, take, drop, arith, ◌∙◌, ap, length-take}
use Rattle.std.proofs.Math.Seq.{take-add}
use Rattle.std.proofs.lemmas.List.{drop-append-le}

-- n bytes more are held, behind those from before
pub drop-take-add : (old new : List ℕ) (from to n : ℕ) → from ≤ to → to ≤ length new → take to new ≡ take to old
    → drop from (take (to + n) new) ≡ drop from (take to old) ++ take n (drop to new)
drop-take-add old new from to n ordered within same =
    ap (drop from) (take-add to n new)
    ∙ drop-append-le from (take to new) (take n (drop to new)) (omega (arith, length-take to new))
    ∙ ap (λ l. drop from l ++ take n (drop to new)) same
