-- The paths that are numbered, as the numbers show them.
use Rattle.std.proofs.Common.{arith, ◌≡◌, ◌∙◌, ◌&&◌, ◌≤◌, ℕ, Bool, true, false, not, nat_le, List, [], ◌∷◌, ◌++◌, map, length, bytes_eq, Option, Some, None, is_some, refl, ap, sym, subst}
use Rattle.std.proofs.lemmas.Bool.Decides.{nat_tests}
use Rattle.std.proofs.lemmas.List.{length-map, map-append}
use Rattle.std.specs.Map.{lookup}
use Rattle.std.specs.Option.{IsSome}
use Rattle.ci_base.specs.declared.numbers.DocNo.{DocNo}
use Rattle.ci_paths.specs.Numbering as numbering
use Rattle.ci_paths.specs.Numbering.{IsFullFor, Numbering, number_of}
use Rattle.ci_journal.specs.Folds.{is_numbered, with_path}

abbrev pub paths_of : List (List ℕ × DocNo) → List (List ℕ)
paths_of numbered = map (λ e. e.0) numbered

pub is_some-lookup : (path : List ℕ) (numbered : List (List ℕ × DocNo)) → is_some (lookup (bytes_eq path) numbered) ≡ is_numbered (paths_of numbered) path
is_some-lookup path [] = refl
is_some-lookup path (e ∷ numbered) = by (bytes_eq path e.0) refl (is_some-lookup path numbered)
  where
    by : (b : Bool) → bytes_eq path e.0 ≡ b → is_some (lookup (bytes_eq path) numbered) ≡ is_numbered (paths_of numbered) path
        → is_some (lookup (bytes_eq path) (e ∷ numbered)) ≡ is_numbered (paths_of (e ∷ numbered)) path
    by true here rest = rw here refl
    by false here rest = rw here rest

pub length-paths_of : (numbered : List (List ℕ × DocNo)) → length (paths_of numbered) ≡ length numbered
length-paths_of numbered = length-map numbered (λ (e : List ℕ × DocNo). e.0)

-- a path that has a number stays where it is, and a new one comes last
pub with_path-known : (path : List ℕ) (numbered : List (List ℕ × DocNo)) → is_some (lookup (bytes_eq path) numbered) ≡ true → with_path (paths_of numbered) path ≡ paths_of numbered
with_path-known path numbered known = let here = sym (is_some-lookup path numbered) ∙ known in rw here refl

pub with_path-new : (path : List ℕ) (doc : DocNo) (numbered : List (List ℕ × DocNo)) → is_some (lookup (bytes_eq path) numbered) ≡ false
    → paths_of (numbered ++ (path, doc) ∷ []) ≡ with_path (paths_of numbered) path
with_path-new path doc numbered new =
    let here = sym (is_some-lookup path numbered) ∙ new in
    map-append (λ (e : List ℕ × DocNo). e.0) numbered ((path, doc) ∷ []) ∙ rw here refl

-- ---- whether one more path may be numbered

not_and : (b c : Bool) → (not b && c) ≡ true → (b ≡ false) × (c ≡ true)
not_and true c e = absurd (cc)
not_and false c e = (refl, e)

-- the path is new, and there are too many
pub crowded-parts : (numbered : List (List ℕ)) (path : List ℕ) (most : ℕ) → true ≡ (not (is_numbered numbered path) && nat_le most (length numbered)) → (is_numbered numbered path ≡ false) × (most ≤ length numbered)
crowded-parts numbered path most e =
    let parts = not_and (is_numbered numbered path) (nat_le most (length numbered)) (sym e) in
    (parts.0, grind (arith, nat_tests, parts.1))

module _ (numbered : List (List ℕ × DocNo)) (path : List ℕ) (most : ℕ) where
  pub crowds-new : (found : Option DocNo) (count : ℕ) → found ≡ lookup (bytes_eq path) numbered → count ≡ length numbered → is_some found ≡ false
      → nat_le most count ≡ (not (is_numbered (paths_of numbered) path) && nat_le most (length (paths_of numbered)))
  crowds-new found count is counts new =
      let here : is_numbered (paths_of numbered) path ≡ false = sym (is_some-lookup path numbered) ∙ ap is_some (sym is) ∙ new in
      rw (here, length-paths_of numbered, counts) refl

  pub crowds-known : (found : Option DocNo) → found ≡ lookup (bytes_eq path) numbered → is_some found ≡ true
      → false ≡ (not (is_numbered (paths_of numbered) path) && nat_le most (length (paths_of numbered)))
  crowds-known found is known =
      let here : is_numbered (paths_of numbered) path ≡ true = sym (is_some-lookup path numbered) ∙ ap is_some (sym is) ∙ known in
      rw here refl

-- ---- what numbering a path leaves

module _ (old new : Numbering) (path : List ℕ) (doc : DocNo) (stays : IsSome (number_of old.numbered path) → new ≡ old) (more : number_of old.numbered path ≡ None → new ≡ numbering.with_path old path doc) where
  by_path : (P : Numbering → Type 0) → (IsSome (number_of old.numbered path) → P old) → (number_of old.numbered path ≡ None → P (numbering.with_path old path doc)) → P new
  by_path P known none = by (number_of old.numbered path) refl
    where
      by : (o : Option DocNo) → number_of old.numbered path ≡ o → P new
      by None e = subst P (sym (more e)) (none e)
      by (Some d) e = let some : IsSome (number_of old.numbered path) = subst IsSome (sym e) refl in subst P (sym (stays some)) (known some)

  pub limit-numbered : new.limit ≡ old.limit
  limit-numbered = by_path (λ (n : Numbering). n.limit ≡ old.limit) (λ known. refl) (λ none. refl)

  pub paths-numbered : paths_of new.numbered ≡ with_path (paths_of old.numbered) path
  paths-numbered = by_path (λ (n : Numbering). paths_of n.numbered ≡ with_path (paths_of old.numbered) path)
      (λ known. sym (with_path-known path old.numbered (some_is (number_of old.numbered path) known)))
      (λ none. with_path-new path doc old.numbered (ap is_some none))
    where
      some_is : {X : Type 0} (o : Option X) → IsSome o → is_some o ≡ true
      some_is None some = absurd (cc)
      some_is (Some x) some = refl

-- a path that doesn't crowd can be numbered
pub unfull : (numbers : Numbering) (path : List ℕ) (most : ℕ) → numbers.limit ≡ most → false ≡ (not (is_numbered (paths_of numbers.numbered) path) && nat_le most (length (paths_of numbers.numbered))) → IsFullFor numbers path → ⊥
unfull numbers path most limit e full =
    let here : is_numbered (paths_of numbers.numbered) path ≡ false = sym (is_some-lookup path numbers.numbered) ∙ ap is_some full.0 in
    let below : most ≤ length (paths_of numbers.numbered) = rw length-paths_of (omega (arith, limit, full.1)) in
    let many : nat_le most (length (paths_of numbers.numbered)) ≡ true = grind (arith, nat_tests, below) in
    let both : (not (is_numbered (paths_of numbers.numbered) path) && nat_le most (length (paths_of numbers.numbered))) ≡ true = rw (here, many) refl in
    let wrong : false ≡ true = e ∙ both in cc
