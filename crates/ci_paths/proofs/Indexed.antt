-- Paths and their numbers, found by the places that are kept.
use Rattle.std.proofs.Common.{◌≡◌, ◌≢◌, ◌==◌, ℕ, ◌+◌, ◌-◌, ◌^◌, ◌<◌, List, [], ◌∷◌, ◌++◌, Option, Some, None, IsNone, IsSome, IfSome, rules, inl, inr, bytes_eq, find, slice_get, length, take, set, replicate, option_map, refl, sym, ap, subst, ◌∙◌, arith, eqb-true, eq-eqb, length-append, length-set, get_or-set_same, get_or-set_other}
use Rattle.std.proofs.lemmas.Bool.{cases_eq}
use Rattle.std.proofs.lemmas.List.{length-replicate}
use Rattle.std.proofs.lemmas.Slice.Eq.{bytes_eq-Decides}
use Rattle.ci_base.specs.declared.numbers.DocNo.{DocNo}
use Rattle.ci_paths.specs.Numbering.{IsLeastFree, number_of, path_of}
use Rattle.ci_paths.specs.Places.{IsIndexed, place_of, least_empty}
use Rattle.ci_paths.proofs.Entries.{find-place, find-some, lookup-place, lookup-front, lookup-last, slice_get-front, slice_get-last, slice_get-push, slice_get-take}
use Rattle.ci_paths.proofs.PlacesLemmas.{place_of-within, least_empty-below, least_empty-none, place_of-room, count-room, count-put}

-- a path that stands in the list has its number alone
pub path_of-entry : (numbered : List (List ℕ × DocNo)) (places : List (Option ℕ)) → IsIndexed numbered places → (at : ℕ) (e : List ℕ × DocNo) → slice_get numbered at ≡ Some e → path_of numbered e.1.0 ≡ Some e.0
path_of-entry numbered places indexed at e there =
    let (o, found) = find-some (λ (f : List ℕ × DocNo). f.1.0 == e.1.0) numbered at e there (eq-eqb e.1.0 e.1.0 refl) in
    let (place, stands, same) = find-place (λ (f : List ℕ × DocNo). f.1.0 == e.1.0) numbered o found in
    let number : o.1.0 ≡ e.1.0 = eqb-true _ _ same in
    let one : Some at ≡ Some place = sym (indexed.listed at e there) ∙ ap (place_of places) (sym number) ∙ indexed.listed place o stands in
    let here : at ≡ place = cc in
    let both : Some o ≡ Some e = sym stands ∙ ap (slice_get numbered) (sym here) ∙ there in
    ap (option_map (λ (f : List ℕ × DocNo). f.0)) (found ∙ both)

-- a number whose place is kept is that path's
pub path_of-place : (numbered : List (List ℕ × DocNo)) (places : List (Option ℕ)) → IsIndexed numbered places → (number at : ℕ) → place_of places number ≡ Some at
    → (path : List ℕ) × (slice_get numbered at ≡ Some (path, record { 0 = number })) × (path_of numbered number ≡ Some path)
path_of-place numbered places indexed number at kept =
    let (path, there) = indexed.kept number at kept in
    (path, there, path_of-entry numbered places indexed at (path, record { 0 = number }) there)

-- a path's number is that path's
pub path_of-number : (numbered : List (List ℕ × DocNo)) (places : List (Option ℕ)) → IsIndexed numbered places → (path : List ℕ) (doc : DocNo) → number_of numbered path ≡ Some doc → path_of numbered doc.0 ≡ Some path
path_of-number numbered places indexed path doc found =
    let (at, key, there, passes) = lookup-place (bytes_eq path) numbered doc found in
    let same : path ≡ key = (bytes_eq-Decides path key).0 passes in
    path_of-entry numbered places indexed at (key, doc) there ∙ ap Some (sym same)

-- so what a search for the path answers is its own
pub owned : (numbered : List (List ℕ × DocNo)) (places : List (Option ℕ)) → IsIndexed numbered places → (path : List ℕ) (o : Option DocNo) → o ≡ number_of numbered path → IfSome o (λ doc. path_of numbered doc.0 ≡ Some path)
owned numbered places indexed path None found = tt
owned numbered places indexed path (Some doc) found = path_of-number numbered places indexed path doc (sym found)

-- a number without a place is free
pub path_of-none : (numbered : List (List ℕ × DocNo)) (places : List (Option ℕ)) → IsIndexed numbered places → (number : ℕ) → place_of places number ≡ None → path_of numbered number ≡ None
path_of-none numbered places indexed number empty = by (find (λ (f : List ℕ × DocNo). f.1.0 == number) numbered) refl
  where
    by : (o : Option (List ℕ × DocNo)) → find (λ (f : List ℕ × DocNo). f.1.0 == number) numbered ≡ o → option_map (λ (f : List ℕ × DocNo). f.0) o ≡ None
    by None found = refl
    by (Some e) found =
        let (at, there, passes) = find-place (λ (f : List ℕ × DocNo). f.1.0 == number) numbered e found in
        let same : Some at ≡ None = sym (indexed.listed at e there) ∙ ap (place_of places) (eqb-true _ _ passes) ∙ empty in cc

-- and a free number has none
pub place_of-none : (numbered : List (List ℕ × DocNo)) (places : List (Option ℕ)) → IsIndexed numbered places → (number : ℕ) → path_of numbered number ≡ None → place_of places number ≡ None
place_of-none numbered places indexed number free = by (place_of places number) refl
  where
    by : (o : Option ℕ) → place_of places number ≡ o → o ≡ None
    by None kept = refl
    by (Some at) kept = let (path, there, owned) = path_of-place numbered places indexed number at kept in let no : Some path ≡ None = sym owned ∙ free in cc

is_none : {X : Type 0} (o : Option X) → o ≡ None → IsNone o
is_none o none = rw none (search rules)

is_some_at : {X : Type 0} (o : Option X) (x : X) → o ≡ Some x → IsSome o
is_some_at o x some = rw some (search rules)

-- the least number without a place is the least free one
pub IsLeastFree-least : (numbered : List (List ℕ × DocNo)) (places : List (Option ℕ)) → IsIndexed numbered places → IsLeastFree numbered (least_empty places)
IsLeastFree-least numbered places indexed = record {
  free = is_none _ (path_of-none numbered places indexed (least_empty places) (least_empty-none places));
  least = λ n below.
      let (at, kept) = least_empty-below places n below in
      let (path, there, own) = path_of-place numbered places indexed n at kept in
      is_some_at _ path own;
}

-- room for more places changes nothing
pub IsIndexed-room : (numbered : List (List ℕ × DocNo)) (places : List (Option ℕ)) (number : ℕ) → IsIndexed numbered places → number + 1 < 2 ^ 32 → IsIndexed numbered (places ++ replicate (number + 1 - length places) None)
IsIndexed-room numbered places number indexed low =
    let more = number + 1 - length places in
    record {
      paths = indexed.paths;
      listed = λ at e there. place_of-room places more e.1.0 ∙ indexed.listed at e there;
      kept = λ n at there. indexed.kept n at (sym (place_of-room places more n) ∙ there);
      count = count-room places more ∙ indexed.count;
      bound = let none : Option ℕ = None in let room = indexed.bound in omega (arith, length-append places (replicate more none), length-replicate more none);
    }

-- and there is room for the number then
pub room-within : (places : List (Option ℕ)) (number : ℕ) → number < length (places ++ replicate (number + 1 - length places) None)
room-within places number =
    let none : Option ℕ = None in
    omega (arith, length-append places (replicate (number + 1 - length places) none), length-replicate (number + 1 - length places) none)

-- a path that comes last has the number that came with it
pub number_of-last : (numbered : List (List ℕ × DocNo)) (path : List ℕ) (doc : DocNo) → number_of numbered path ≡ None → number_of (numbered ++ (path, doc) ∷ []) path ≡ Some doc
number_of-last numbered path doc new = lookup-last (bytes_eq path) numbered (path, doc) ((bytes_eq-Decides path path).1 refl) new

-- a new path takes a free number
pub IsIndexed-put : (numbered : List (List ℕ × DocNo)) (places : List (Option ℕ)) (path : List ℕ) (doc : DocNo) → IsIndexed numbered places → doc.0 < length places
    → number_of numbered path ≡ None → path_of numbered doc.0 ≡ None → IsIndexed (numbered ++ (path, doc) ∷ []) (set places doc.0 (Some (length numbered)))
IsIndexed-put numbered places path doc indexed within new free =
    let put = set places doc.0 (Some (length numbered)) in
    let empty = place_of-none numbered places indexed doc.0 free in
    record {
      paths = λ at e there. elim (slice_get-push numbered (path, doc) e at there) [
        | inl old ↦ lookup-front (bytes_eq e.0) numbered (path, doc) e.1 (indexed.paths at e old)
        | inr last ↦
            let P : List ℕ × DocNo → Type 0 = λ f. number_of (numbered ++ (path, doc) ∷ []) f.0 ≡ Some f.1 in
            subst P last.1 (number_of-last numbered path doc new)
      ];
      listed = λ at e there. elim (slice_get-push numbered (path, doc) e at there) [
        | inl old ↦
            let here = indexed.listed at e old in
            let other : e.1.0 ≢ doc.0 = λ same. let no : Some at ≡ None = sym here ∙ ap (place_of places) same ∙ empty in cc in
            get_or-set_other places doc.0 e.1.0 (Some (length numbered)) None other ∙ here
        | inr last ↦
            let P : List ℕ × DocNo → Type 0 = λ f. place_of put f.1.0 ≡ Some at in
            subst P last.1 (get_or-set_same places doc.0 (Some (length numbered)) None within ∙ ap Some (sym last.0))
      ];
      kept = λ n at there. elim (cases_eq n doc.0) [
        | inl same ↦
            let here : Some (length numbered) ≡ Some at = sym (get_or-set_same places doc.0 (Some (length numbered)) None within) ∙ ap (place_of put) (sym same) ∙ there in
            let is : length numbered ≡ at = cc in
            (path, ap (slice_get (numbered ++ (path, doc) ∷ [])) (sym is) ∙ slice_get-last numbered (path, doc) ∙ ap (λ (m : ℕ). Some (path, (let d : DocNo = record { 0 = m } in d))) (sym same))
        | inr other ↦
            let (p, old) = indexed.kept n at (sym (get_or-set_other places doc.0 n (Some (length numbered)) None other) ∙ there) in
            (p, slice_get-front numbered (path, doc) _ at old)
      ];
      count = count-put places doc.0 (length numbered) within empty ∙ ap (λ n. n + 1) indexed.count ∙ sym (length-append numbered ((path, doc) ∷ []));
      bound = let room = indexed.bound in omega (arith, length-set places doc.0 (Some (length numbered)));
    }

-- a path at a place doesn't stand before that place, and neither does its number
pub number_of-before : (numbered : List (List ℕ × DocNo)) (places : List (Option ℕ)) → IsIndexed numbered places → (at : ℕ) (e : List ℕ × DocNo) → slice_get numbered at ≡ Some e → number_of (take at numbered) e.0 ≡ None
number_of-before numbered places indexed at e there = by (number_of (take at numbered) e.0) refl
  where
    by : (o : Option DocNo) → number_of (take at numbered) e.0 ≡ o → o ≡ None
    by None found = refl
    by (Some doc) found =
        let (before, key, stands, passes) = lookup-place (bytes_eq e.0) (take at numbered) doc found in
        let (below, here) = slice_get-take numbered at before (key, doc) stands in
        let same : e.0 ≡ key = (bytes_eq-Decides e.0 key).0 passes in
        let own : Some e.1 ≡ Some doc = sym (indexed.paths at e there) ∙ ap (number_of numbered) same ∙ indexed.paths before (key, doc) here in
        let one : Some at ≡ Some before = sym (indexed.listed at e there) ∙ ap (λ (d : DocNo). place_of places d.0) (let is : e.1 ≡ doc = cc in is) ∙ indexed.listed before (key, doc) here in
        let is : at ≡ before = cc in absurd (omega (arith, below, is))

pub path_of-before : (numbered : List (List ℕ × DocNo)) (places : List (Option ℕ)) → IsIndexed numbered places → (at : ℕ) (e : List ℕ × DocNo) → slice_get numbered at ≡ Some e → path_of (take at numbered) e.1.0 ≡ None
path_of-before numbered places indexed at e there = by (find (λ (f : List ℕ × DocNo). f.1.0 == e.1.0) (take at numbered)) refl
  where
    by : (o : Option (List ℕ × DocNo)) → find (λ (f : List ℕ × DocNo). f.1.0 == e.1.0) (take at numbered) ≡ o → option_map (λ (f : List ℕ × DocNo). f.0) o ≡ None
    by None found = refl
    by (Some f) found =
        let (before, stands, passes) = find-place (λ (f : List ℕ × DocNo). f.1.0 == e.1.0) (take at numbered) f found in
        let (below, here) = slice_get-take numbered at before f stands in
        let one : Some before ≡ Some at = sym (indexed.listed before f here) ∙ ap (place_of places) (eqb-true _ _ passes) ∙ indexed.listed at e there in
        let is : before ≡ at = cc in absurd (omega (arith, below, is))

-- and the number is one of those that have places
pub number-bound : (numbered : List (List ℕ × DocNo)) (places : List (Option ℕ)) → IsIndexed numbered places → (at : ℕ) (e : List ℕ × DocNo) → slice_get numbered at ≡ Some e → e.1.0 + 1 < 2 ^ 32
number-bound numbered places indexed at e there = let room = indexed.bound in omega (arith, place_of-within places e.1.0 at (indexed.listed at e there))
