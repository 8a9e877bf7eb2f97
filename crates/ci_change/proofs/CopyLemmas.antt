-- A copy of rows, made row by row.
use Rattle.std.proofs.Common.{◌≡◌, ℕ, Bool, true, false, cond, List, [], ◌∷◌, ◌++◌, Some, None, bytes_eq, refl, sym, ap, subst, ◌∙◌, append_assoc}
use Rattle.std.proofs.lemmas.Slice.Eq.{bytes_eq-Decides}
use Rattle.std.specs.List.{AllByRecursion, IsDistinct}
use Rattle.std.specs.Map.{keys_of, lookup}
use Rattle.indexmap.specs.IndexMap.{IndexMap, insert_entry}
use Rattle.indexmap.proofs.CallerLemmas.{insert_entry-new}
use Rattle.ci_change.specs.declared.rows.Numbers.{Numbers}

-- what holds of all paths holds of the one behind these
at_path : (P : List ℕ → Type 0) (before rest : List (List ℕ × Numbers)) (path : List ℕ) (numbers : Numbers) → AllByRecursion P (keys_of (before ++ (path, numbers) ∷ rest)) → P path
at_path P [] rest path numbers all = all.0
at_path P (row ∷ before) rest path numbers all = at_path P before rest path numbers all.1

other_way : (a b : List ℕ) → bytes_eq a b ≡ false → bytes_eq b a ≡ false
other_way a b differs = by (bytes_eq b a) refl
  where
    by : (t : Bool) → bytes_eq b a ≡ t → t ≡ false
    by false same = refl
    by true same =
        let is : bytes_eq a b ≡ true = (bytes_eq-Decides a b).1 (sym ((bytes_eq-Decides b a).0 same)) in
        let no : true ≡ false = sym is ∙ differs in cc

-- where no path stands twice, the rows before a path don't have it
absent : (before rest : List (List ℕ × Numbers)) (path : List ℕ) (numbers : Numbers) → IsDistinct bytes_eq (keys_of (before ++ (path, numbers) ∷ rest)) → lookup (bytes_eq path) before ≡ None
unfolding IsDistinct
absent [] rest path numbers distinct = refl
absent (row ∷ before) rest path numbers distinct =
    let apart = other_way row.0 path (at_path (λ p. bytes_eq row.0 p ≡ false) before rest path numbers distinct.0) in
    ap (λ b. cond b (Some row.1) (lookup (bytes_eq path) before)) apart ∙ absent before rest path numbers distinct.1

-- one row more was copied
pub copied-next : {S : Type 0} (copied : IndexMap (List ℕ) Numbers S) (all left rest new : List (List ℕ × Numbers)) (key path : List ℕ) (numbers : Numbers)
    → copied.entries ++ left ≡ all → left ≡ (path, numbers) ∷ rest → IsDistinct bytes_eq (keys_of all) → key ≡ path → new ≡ insert_entry bytes_eq copied.entries key numbers
    → new ++ rest ≡ all
copied-next copied all left rest new key path numbers so_far next distinct same put =
    let whole : copied.entries ++ (path, numbers) ∷ rest ≡ all = ap (λ l. copied.entries ++ l) (sym next) ∙ so_far in
    let none = absent copied.entries rest path numbers (subst (λ l. IsDistinct bytes_eq (keys_of l)) (sym whole) distinct) in
    let last : insert_entry bytes_eq copied.entries key numbers ≡ copied.entries ++ (key, numbers) ∷ [] =
    insert_entry-new bytes_eq copied key numbers (ap (λ p. lookup (bytes_eq p) copied.entries) same ∙ none) in
    ap (λ l. l ++ rest) (put ∙ last ∙ ap (λ p. copied.entries ++ (p, numbers) ∷ []) same) ∙ append_assoc copied.entries ((path, numbers) ∷ []) rest ∙ whole
