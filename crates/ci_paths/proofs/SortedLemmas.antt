-- The map of numbers by path, beside the list of them.
use Rattle.std.proofs.Common.{◌≡◌, ℕ, Bool, true, false, List, [], ◌∷◌, ◌++◌, Some, None, bytes_eq, refl, sym, ap, ◌∙◌}
use Rattle.std.specs.BTreeMap.{BTreeMap, Updates, get}
use Rattle.std.specs.Cmp.Lexicographic.{slice_cmp}
use Rattle.std.specs.Ordering.{nat_cmp}
use Rattle.std.proofs.lemmas.Map.Text.{is_eq-slice_cmp}
use Rattle.std.proofs.lemmas.Slice.Eq.{bytes_eq-Decides}
use Rattle.ci_base.specs.declared.numbers.DocNo.{DocNo}
use Rattle.ci_paths.specs.Numbering.{number_of}
use Rattle.ci_paths.specs.Places.{IsSorted}
use Rattle.ci_paths.proofs.Entries.{lookup-other}
use Rattle.ci_paths.proofs.Indexed.{number_of-last}

-- a path that neither has goes into both
pub IsSorted-put : (numbered : List (List ℕ × DocNo)) (map new : BTreeMap (List ℕ) DocNo) (path : List ℕ) (doc : DocNo) → IsSorted numbered map
    → number_of numbered path ≡ None → Updates (slice_cmp nat_cmp) map new path (Some doc) → IsSorted (numbered ++ (path, doc) ∷ []) new
IsSorted-put numbered map new path doc sorted none updates q = by (bytes_eq q path) refl
  where
    by : (b : Bool) → bytes_eq q path ≡ b → get (slice_cmp nat_cmp) new q ≡ number_of (numbered ++ (path, doc) ∷ []) q
    by true same =
        let is : q ≡ path = (bytes_eq-Decides q path).0 same in
        ap (λ p. get (slice_cmp nat_cmp) new p) is ∙ updates.1 ∙ sym (number_of-last numbered path doc none) ∙ ap (number_of (numbered ++ (path, doc) ∷ [])) (sym is)
    by false other =
        let apart : bytes_eq path q ≡ false = not_same (bytes_eq path q) refl in
        updates.2 q (is_eq-slice_cmp path q ∙ apart) ∙ sorted q ∙ sym (lookup-other (bytes_eq q) numbered (path, doc) other)
      where
        not_same : (b : Bool) → bytes_eq path q ≡ b → b ≡ false
        not_same false differs = refl
        not_same true equals =
            let is : path ≡ q = (bytes_eq-Decides path q).0 equals in
            let back : bytes_eq q path ≡ true = (bytes_eq-Decides q path).1 (sym is) in
            let no : true ≡ false = sym back ∙ other in cc
