-- The standard noise words stand in the order of their bytes.
use native.Mathlib.Numerals.{unary_clauses}
use Rattle.std.proofs.Common.{◌≡◌, ℕ, zero, suc, ◌+◌, ◌<◌, ◌≤◌, Bool, false, true, not, ◌&&◌, List, [], ◌∷◌, length, drop, codes, IsSorted, refl, arith}
use Rattle.std.specs.Cmp.Lexicographic.{slice_cmp}
use Rattle.std.specs.List.Sorted.{IsSortedBy}
use Rattle.std.specs.Ordering.{is_lt, nat_cmp}
use Rattle.ci_words.specs.Noise.{standard_noise}

-- none is less than the one before it
abbrev pub are_ascending : {X : Type 0} → (X → X → Bool) → X → List X → Bool
are_ascending lt first [] = true
are_ascending lt first (next ∷ rest) = not (lt next first) && are_ascending lt next rest

neither : (one other : Bool) → not one && other ≡ true → (one ≡ false) × (other ≡ true)
neither false other e = (refl, e)
neither true other e = cc

pub sorted_where_ascending : {X : Type 0} (lt : X → X → Bool) (first : X) (rest : List X) → are_ascending lt first rest ≡ true → IsSortedBy lt (first ∷ rest)
sorted_where_ascending lt first [] up k d low high = absurd (omega arith)
sorted_where_ascending lt first (next ∷ rest) up zero d low high = (neither (lt next first) (are_ascending lt next rest) up).0
sorted_where_ascending lt first (next ∷ rest) up (suc k) d low high =
    let behind = sorted_where_ascending lt next rest (neither (lt next first) (are_ascending lt next rest) up).1 k d (omega arith) (omega arith) in
    simp unary_clauses (simp unary_clauses at behind)

pub standard_is_sorted : IsSorted (slice_cmp nat_cmp) standard_noise
standard_is_sorted = sorted_where_ascending (λ x y. is_lt (slice_cmp nat_cmp x y)) (codes "a") (drop 1 standard_noise) refl
