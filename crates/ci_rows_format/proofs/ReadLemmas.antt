-- Steps of reading a row.
use Rattle.std.proofs.Common.{◌≡◌, ℕ, ◌-◌, ◌<◌, ◌&&◌, true, false, List, Option, Some, None, refl, sym, ap}
use Rattle.std.specs.Prelude.{IsUtf8}
use Rattle.std.specs.Str.{is_utf8}
use Rattle.std.proofs.lemmas.Bool.{and_parts, and_from, false_from_ne_true}
use Rattle.std.proofs.lemmas.Str.{IsUtf8-from_is_utf8, is_utf8-from_IsUtf8}
use Rattle.ci_base.specs.Path.{IsPath, has_path_form}
use Rattle.ci_front.specs.Front.{Front, many_at, sized_at}
use Rattle.ci_front.proofs.CodeLemmas.{with_front, many_ends}
use Rattle.ci_rows_format.specs.declared.fault.RowsFault.{RowsFault}
use Rattle.ci_rows_format.specs.declared.fault.RowsFault.TheVariants as faults
use Rattle.ci_rows_format.specs.declared.row.Row.{Row}
use Rattle.ci_rows_format.specs.Reading.{Fails, fields_at, fields_of, may_have, path_at, row_at, text_at}

pub path_from_test : (text : List ℕ) → (is_utf8 text && has_path_form text) ≡ true → IsPath text
path_from_test text e = let both = and_parts (is_utf8 text) (has_path_form text) e in record { utf8 = IsUtf8-from_is_utf8 text both.0; form = both.1 }

pub test_from_path : (text : List ℕ) → IsPath text → (is_utf8 text && has_path_form text) ≡ true
test_from_path text is = and_from (is_utf8 text) (has_path_form text) (is_utf8-from_IsUtf8 text is.utf8) is.form

pub path_read : (bytes text rest path : List ℕ) → sized_at bytes ≡ Some (text, rest) → IsPath text → path ≡ text → path_at bytes ≡ Some (path, rest)
unfolding path_at
path_read bytes text rest path e is same = rw (e, test_from_path text is) (ap (λ p. Some (p, rest)) (sym same))

pub path_bad : (bytes text rest : List ℕ) → sized_at bytes ≡ Some (text, rest) → (IsPath text → ⊥) → path_at bytes ≡ None
unfolding path_at
path_bad bytes text rest e isnt = rw (e, false_from_ne_true (is_utf8 text && has_path_form text) (λ t. isnt (path_from_test text t))) refl

pub text_read : (bytes text rest shown : List ℕ) → sized_at bytes ≡ Some (text, rest) → IsUtf8 text → shown ≡ text → text_at bytes ≡ Some (shown, rest)
unfolding text_at
text_read bytes text rest shown e is same = rw (e, is_utf8-from_IsUtf8 text is) (ap (λ p. Some (p, rest)) (sym same))

pub text_bad : (bytes text rest : List ℕ) → sized_at bytes ≡ Some (text, rest) → (IsUtf8 text → ⊥) → text_at bytes ≡ None
unfolding text_at
text_bad bytes text rest e isnt = rw (e, false_from_ne_true (is_utf8 text) (λ t. isnt (IsUtf8-from_is_utf8 text t))) refl

-- a list ends where one of its values isn't read
pub list_ends : {X : Type 0} (at : Front X) (e : RowsFault) (front : List X) (count i : ℕ) (bytes : List ℕ) (total : Option (List X × List ℕ)) → i < count → Fails e (at bytes)
    → with_front front (many_at at (count - i) bytes) ≡ total → Fails e total
list_ends at faults.BadRows front count i bytes total lt h so_far = many_ends at front count i bytes total lt h so_far
list_ends at faults.OutOfMemory front count i bytes total lt h so_far = tt

pub row_read : (bytes rest : List ℕ) (row : Row) → fields_at bytes ≡ Some (fields_of row, rest) → may_have row.state row.values ≡ true → row_at bytes ≡ Some (row, rest)
unfolding row_at
row_read bytes rest row e good = rw (e, good) refl

pub row_bad : (bytes rest : List ℕ) (row : Row) → fields_at bytes ≡ Some (fields_of row, rest) → may_have row.state row.values ≡ false → row_at bytes ≡ None
unfolding row_at
row_bad bytes rest row e bad = rw (e, bad) refl
