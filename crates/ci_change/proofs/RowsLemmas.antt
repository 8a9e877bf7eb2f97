-- Rows by path and by place.
use Rattle.std.proofs.Common.{◌≡◌, ◌||◌, ℕ, IsTrue, Bool, true, false, cond, List, [], ◌∷◌, ◌++◌, length, length-append, slice_index_or, position, slice_get, Option, None, Some, is_some, unwrap_or, option_map, bytes_eq, refl, sym, ap, subst, ◌∙◌, arith, if◌then◌else◌}
use Rattle.std.proofs.lemmas.List.Quantifiers.{position-Some}
use Rattle.std.proofs.lemmas.List.{map-append}
use Rattle.std.proofs.lemmas.Map.Entries.{length-keys_of}
use Rattle.std.proofs.Math.ListN.{get_or-append}
use Rattle.std.proofs.lemmas.Option.{slice_get-get_or, slice_get-map}
use Rattle.std.proofs.lemmas.Slice.Eq.{bytes_eq-Decides}
use Rattle.std.specs.Map.{keys_of, lookup}
use Rattle.indexmap.specs.IndexMap.{IndexMap, insert_entry}
use Rattle.indexmap.proofs.CallerLemmas.{insert_entry-new}
use Rattle.ci_change.specs.declared.rows.Numbers.{Numbers}
use Rattle.ci_change.specs.Rows.{none, has_row, numbers_at, KeepsRows, Puts}

-- a path stands at its position
pub slice_get-position : (paths : List (List ℕ)) (place : ℕ) (path : List ℕ) → position (bytes_eq path) paths ≡ Some place → slice_get paths place ≡ Some path
slice_get-position paths place path at =
    let found = position-Some (bytes_eq path) paths place [] at in
    slice_get-get_or paths place [] found.0 ∙ ap Some (sym ((bytes_eq-Decides _ _).0 found.1))

pub none_from_test : {X : Type 0} (o : Option X) → false ≡ is_some o → o ≡ None
none_from_test None same = refl
none_from_test (Some x) same = cc

-- what one write of a path's numbers says of each path
pub Puts-from_lookup : (old new : List (List ℕ × Numbers)) (key path : List ℕ) (put : Numbers) → key ≡ path
    → ((other : List ℕ) → lookup (bytes_eq other) new ≡ cond (bytes_eq key other) (Some put) (lookup (bytes_eq other) old)) → Puts old new path put
Puts-from_lookup old new key path put same at = subst (λ (p : List ℕ). Puts old new p put) same (record {
  numbers = λ other. ap (λ o. unwrap_or o none) (at other) ∙ unwrap_or-cond (bytes_eq key other) (lookup (bytes_eq other) old);
  rows = λ other there. rw (at other) (is_some-cond (bytes_eq key other) (lookup (bytes_eq other) old) there);
})
  where
    unwrap_or-cond : (b : Bool) (o : Option Numbers) → unwrap_or (cond b (Some put) o) none ≡ (if b then put else unwrap_or o none)
    unwrap_or-cond true o = refl
    unwrap_or-cond false o = refl

    is_some-cond : (b : Bool) (o : Option Numbers) → IsTrue (b || is_some o) → IsTrue (is_some (cond b (Some put) o))
    is_some-cond true o there = there
    is_some-cond false o there = there

pub slice_get-last : (rows : List (List ℕ × Numbers)) (path : List ℕ) (numbers : Numbers) → slice_get (keys_of (rows ++ (path, numbers) ∷ [])) (length rows) ≡ Some path
slice_get-last [] path numbers = refl
slice_get-last (row ∷ rows) path numbers = slice_get-last rows path numbers

-- the path at a place is that of its row
pub path_at_place : (rows : List (List ℕ × Numbers)) (place : ℕ) (row : List ℕ × Numbers) (path : List ℕ) → slice_get rows place ≡ Some row → slice_get (keys_of rows) place ≡ Some path → row.0 ≡ path
path_at_place rows place row path at named =
    let same : Some row.0 ≡ Some path = sym (ap (option_map (λ (r : List ℕ × Numbers). r.0)) at) ∙ sym (slice_get-map (λ (r : List ℕ × Numbers). r.0) rows place) ∙ named in cc

-- and the numbers at a place are those of its path
pub numbers_at_place : (rows : List (List ℕ × Numbers)) (place : ℕ) (row : List ℕ × Numbers) (path : List ℕ)
    → slice_get rows place ≡ Some row → slice_get (keys_of rows) place ≡ Some path → lookup (bytes_eq row.0) rows ≡ Some row.1 → row.1 ≡ numbers_at rows path
numbers_at_place rows place row path at named found =
    sym (ap (λ p. numbers_at rows p) (sym (path_at_place rows place row path at named)) ∙ ap (λ o. unwrap_or o none) found)

-- a new path's row goes last
pub insert_entry-last : {S : Type 0} (rows : IndexMap (List ℕ) Numbers S) (key path : List ℕ) → key ≡ path → lookup (bytes_eq path) rows.entries ≡ None
    → insert_entry bytes_eq rows.entries key none ≡ rows.entries ++ (path, none) ∷ []
insert_entry-last rows key path same absent =
    insert_entry-new bytes_eq rows key none (ap (λ p. lookup (bytes_eq p) rows.entries) same ∙ absent) ∙ ap (λ p. rows.entries ++ (p, none) ∷ []) same

unwrap_or-none : (b : Bool) → unwrap_or (cond b (Some none) None) none ≡ none
unwrap_or-none true = refl
unwrap_or-none false = refl

unwrap_or-first : (b : Bool) (numbers : Numbers) (o p : Option Numbers) → unwrap_or o none ≡ unwrap_or p none → unwrap_or (cond b (Some numbers) o) none ≡ unwrap_or (cond b (Some numbers) p) none
unwrap_or-first true numbers o p same = refl
unwrap_or-first false numbers o p same = same

is_some-first : (b : Bool) (numbers : Numbers) (o p : Option Numbers) → (IsTrue (is_some o) → IsTrue (is_some p)) → IsTrue (is_some (cond b (Some numbers) o)) → IsTrue (is_some (cond b (Some numbers) p))
is_some-first true numbers o p keeps there = there
is_some-first false numbers o p keeps there = keeps there

numbers_at-push : (rows : List (List ℕ × Numbers)) (path other : List ℕ) → numbers_at (rows ++ (path, none) ∷ []) other ≡ numbers_at rows other
numbers_at-push [] path other = unwrap_or-none (bytes_eq other path)
numbers_at-push (row ∷ rows) path other = unwrap_or-first (bytes_eq other row.0) row.1 _ _ (numbers_at-push rows path other)

has_row-push : (rows : List (List ℕ × Numbers)) (path other : List ℕ) → IsTrue (has_row rows other) → IsTrue (has_row (rows ++ (path, none) ∷ []) other)
has_row-push [] path other there = cc
has_row-push (row ∷ rows) path other there = is_some-first (bytes_eq other row.0) row.1 _ _ (has_row-push rows path other) there

-- a row without numbers, put last, changes nothing for the others
pub KeepsRows-push : (rows : List (List ℕ × Numbers)) (path : List ℕ) → KeepsRows rows (rows ++ (path, none) ∷ [])
KeepsRows-push rows path = record {
  grows = omega (arith, length-append rows ((path, none) ∷ []));
  paths = λ place within. ap (λ ps. slice_index_or ps place []) (map-append _ rows _) ∙ get_or-append (keys_of rows) _ [] place (omega (arith, length-keys_of rows));
  numbers = numbers_at-push rows path;
  rows = has_row-push rows path;
}
