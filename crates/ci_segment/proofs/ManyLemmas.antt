-- So many values, read where they are spelled.
use Rattle.std.proofs.Common.{◌≡◌, ℕ, zero, suc, List, [], ◌∷◌, ◌++◌, length, Some, refl, sym, ap, subst, ◌∙◌, append_assoc, arith}
use Rattle.std.specs.List.{AllByRecursion, flat_map}
use Rattle.std.proofs.lemmas.List.Concat.{flat_map-cons}
use Rattle.ci_front.specs.Front.{Front, ◌>>=◌, many_at}
use Rattle.ci_front.proofs.FrontLemmas.{AreBytes, AreBytes-rest, IsCode, bind_some, some_is}

pub many_takes : {X : Type 0} (spelled : X → List ℕ) (Fits : X → Type 0) (at : Front X) → IsCode spelled Fits at
    → (count : ℕ) (bytes : List ℕ) (xs : List X) (rest : List ℕ) → AreBytes bytes → many_at at count bytes ≡ Some (xs, rest)
    → AllByRecursion Fits xs × (length xs ≡ count) × (bytes ≡ flat_map spelled xs ++ rest)
unfolding many_at
many_takes spelled Fits at code zero bytes xs rest fits e =
    subst (λ v. AllByRecursion Fits v.0 × (length v.0 ≡ 0) × (bytes ≡ flat_map spelled v.0 ++ v.1)) (some_is ([], bytes) (xs, rest) e) (tt, refl, refl)
many_takes spelled Fits at code (suc count) bytes xs rest fits e =
    let first = bind_some (at bytes) (λ first. many_at at count first.1 >>= λ others. Some (first.0 ∷ others.0, others.1)) (xs, rest) e in
    let second = bind_some (many_at at count first.0.1) (λ others. Some (first.0.0 ∷ others.0, others.1)) (xs, rest) first.2 in
    let tx = code.takes bytes first.0.0 first.0.1 fits first.1 in
    let ts = many_takes spelled Fits at code count first.0.1 second.0.0 second.0.1 (AreBytes-rest (spelled first.0.0) first.0.1 bytes tx.1 fits) second.1 in
    let whole : bytes ≡ flat_map spelled (first.0.0 ∷ second.0.0) ++ second.0.1 =
    tx.1 ∙ ap (λ r. spelled first.0.0 ++ r) ts.2 ∙ sym (append_assoc (spelled first.0.0) (flat_map spelled second.0.0) second.0.1) ∙ ap (λ f. f ++ second.0.1) (sym (flat_map-cons spelled first.0.0 second.0.0)) in
    let size : length (first.0.0 ∷ second.0.0) ≡ suc count = omega (arith, ts.1) in
    subst (λ v. AllByRecursion Fits v.0 × (length v.0 ≡ suc count) × (bytes ≡ flat_map spelled v.0 ++ v.1)) (some_is _ (xs, rest) second.2) ((tx.0, ts.0), size, whole)

pub many_again : {X : Type 0} (spelled : X → List ℕ) (Fits : X → Type 0) (at : Front X) → IsCode spelled Fits at
    → (xs : List X) (rest : List ℕ) → AllByRecursion Fits xs → many_at at (length xs) (flat_map spelled xs ++ rest) ≡ Some (xs, rest)
unfolding many_at
many_again spelled Fits at code [] rest fits = refl
many_again spelled Fits at code (x ∷ xs) rest fits =
    ap (λ f. many_at at (suc (length xs)) (f ++ rest)) (flat_map-cons spelled x xs)
    ∙ ap (many_at at (suc (length xs))) (append_assoc (spelled x) (flat_map spelled xs) rest)
    ∙ rw (code.again x (flat_map spelled xs ++ rest) fits.0, many_again spelled Fits at code xs rest fits.1) refl
