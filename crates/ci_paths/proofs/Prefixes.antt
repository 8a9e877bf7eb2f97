-- A list that begins with two lists, one behind the other.
use Rattle.std.proofs.Common.{◌≡◌, ◌==◌, ◌&&◌, ◌++◌, ℕ, Bool, true, false, List, [], ◌∷◌, length, drop, refl, nat_eq}
use Rattle.std.specs.List.{starts_with}

and-assoc : (a b c : Bool) → (a && (b && c)) ≡ ((a && b) && c)
and-assoc true b c = refl
and-assoc false b c = refl

pub starts_with-append : (xs front back : List ℕ) → starts_with nat_eq xs (front ++ back) ≡ (starts_with nat_eq xs front && starts_with nat_eq (drop (length front) xs) back)
starts_with-append xs [] back = refl
starts_with-append [] (y ∷ front) back = refl
starts_with-append (x ∷ xs) (y ∷ front) back = rw (starts_with-append xs front back) (and-assoc (y == x) _ _)
