-- Rows are read exactly where they are spelled.
use Rattle.std.proofs.Common.{◌≡◌, ℕ, ◌^◌, ◌<◌, ◌≤◌, ◌&&◌, Bool, true, false, cond, ltb, eqb, List, [], ◌∷◌, ◌++◌, length, map, Some, None, refl, sym, ap, subst, ◌∙◌, ◌⊎◌, inl, inr, arith, append_assoc, append-nil, codes, bytes_eq}
use Rattle.std.specs.Prelude.{IsUtf8, ⊤}
use Rattle.std.specs.Str.{is_utf8}
use Rattle.std.proofs.lemmas.Bool.{and_parts, and_from, ltb-true, lt-ltb, leb-true, eqb-true}
use Rattle.std.proofs.lemmas.List.{append_cancel_left, nil_from_length}
use Rattle.std.proofs.lemmas.Str.{IsUtf8-from_is_utf8, is_utf8-from_IsUtf8}
use Rattle.std.proofs.lemmas.Slice.Eq.{bytes_eq-Decides}
use Rattle.ci_base.specs.Path.{IsPath}
use Rattle.ci_base.specs.Varint.{varint}
use Rattle.ci_base.specs.declared.numbers.PropNo.{PropNo}
use Rattle.ci_base.specs.declared.value.Value.{Value}
use Rattle.ci_base.specs.declared.value.Value.TheVariants.{Int, Str}
use Rattle.ci_front.specs.Front.{◌>>=◌, both_at, bytes_at, counted, counted_at, i64_at, i64_bytes, number_at, rises, sized, sized_at}
use Rattle.ci_front.proofs.FrontLemmas.{AreBytes, IsCode, bind_some, guard_holds, some_is, one_value, number_code, sized_code, i64_code, bytes_takes, bytes_again, AreBytes-rest}
use Rattle.ci_front.proofs.CodeLemmas.{IsSeen, FitAll, both_code, seen_code, counted_code}
use Rattle.ci_front.proofs.RisesLemmas.{sorted_from_rises, rises_from_sorted}
use Rattle.ci_props.specs.Table.{kind_of_number}
use Rattle.ci_rows_format.specs.declared.row.Row.{Row}
use Rattle.ci_rows_format.specs.declared.row.RowState.{RowState}
use Rattle.ci_rows_format.specs.declared.row.RowState.TheVariants.{Kept, Erased}
use Rattle.ci_rows_format.specs.Reading.{Fields, doc_at, path_at, state_at, text_at, int_at, held_at, is_row_value, value_of, value_at, values_at, fields_at, may_have, row_of, fields_of, row_at, magic_at, rows_of}
use Rattle.ci_rows_format.specs.Rows.{AreRowValues, IsHeld, IsRow, IsRows, IsRowValue, MayHave, has_kind, held_bytes, row_bytes, rows_spelling, state_byte, value_bytes}
use Rattle.ci_rows_format.proofs.ReadLemmas.{path_from_test, test_from_path}

chosen : {A : Type 0} (b : Bool) (x y z : A) → cond b x y ≡ z → ((b ≡ true) × (x ≡ z)) ⊎ ((b ≡ false) × (y ≡ z))
chosen true x y z e = inl (refl, e)
chosen false x y z e = inr (refl, e)

doc_code : IsCode varint (λ n. n < 2 ^ 32) doc_at
unfolding doc_at
doc_code = seen_code (λ n. ltb n (2 ^ 32)) (λ n. n) (λ n. n) varint (λ n. n < 2 ^ 64) (λ n. n < 2 ^ 32) number_at
    (record { there = λ n fits good. (ltb-true n (2 ^ 32) good, refl); here = λ n fits. (omega arith, lt-ltb n (2 ^ 32) fits, refl) }) number_code

path_short : (path : List ℕ) → IsPath path → length path ≤ 1024
path_short path p = leb-true (length path) 1024 (and_parts _ _ (and_parts _ _ (and_parts _ _ p.form).0).0).0

path_code : IsCode sized IsPath path_at
unfolding path_at
path_code = seen_code _ (λ t. t) (λ t. t) sized (λ t. length t < 2 ^ 64) IsPath sized_at
    (record { there = λ t fits good. (path_from_test t good, refl); here = λ t fits. (omega (arith, path_short t fits), test_from_path t fits, refl) }) sized_code

text_code : IsCode sized (λ t. IsUtf8 t × (length t < 2 ^ 64)) text_at
unfolding text_at
text_code = seen_code is_utf8 (λ t. t) (λ t. t) sized (λ t. length t < 2 ^ 64) (λ t. IsUtf8 t × (length t < 2 ^ 64)) sized_at
    (record { there = λ t fits good. ((IsUtf8-from_is_utf8 t good, fits), refl); here = λ t fits. (fits.1, is_utf8-from_IsUtf8 t fits.0, refl) }) sized_code

state_takes : (bytes : List ℕ) (s : RowState) (rest : List ℕ) → AreBytes bytes → state_at bytes ≡ Some (s, rest) → ⊤ × (bytes ≡ (state_byte s ∷ []) ++ rest)
unfolding state_at
state_takes [] s rest fits e = absurd cc
state_takes (b ∷ bytes) s rest fits e =
    elim (chosen (eqb b 1) (Some (Kept, bytes)) (cond (eqb b 2) (Some (Erased, bytes)) None) (Some (s, rest)) e) [
      | inl h ↦ subst (λ (v : RowState × List ℕ). ⊤ × (b ∷ bytes ≡ (state_byte v.0 ∷ []) ++ v.1)) (some_is (Kept, bytes) (s, rest) h.1) (tt, ap (λ x. x ∷ bytes) (eqb-true b 1 h.0))
      | inr h ↦ elim (chosen (eqb b 2) (Some (Erased, bytes)) None (Some (s, rest)) h.1) [
        | inl g ↦ subst (λ (v : RowState × List ℕ). ⊤ × (b ∷ bytes ≡ (state_byte v.0 ∷ []) ++ v.1)) (some_is (Erased, bytes) (s, rest) g.1) (tt, ap (λ x. x ∷ bytes) (eqb-true b 2 g.0))
        | inr g ↦ absurd (let none = g.1 in cc)
      ]
    ]

state_again : (s : RowState) (rest : List ℕ) → ⊤ → state_at ((state_byte s ∷ []) ++ rest) ≡ Some (s, rest)
unfolding state_at
state_again Kept rest fits = refl
state_again Erased rest fits = refl

state_code : IsCode (λ s. state_byte s ∷ []) (λ s. ⊤) state_at
state_code = record { takes = state_takes; again = state_again }

held_takes : (bytes : List ℕ) (v : Value) (rest : List ℕ) → AreBytes bytes → held_at bytes ≡ Some (v, rest) → IsHeld v × (bytes ≡ held_bytes v ++ rest)
unfolding held_at
held_takes [] v rest fits e = absurd cc
held_takes (b ∷ bytes) v rest fits e =
    let behind : AreBytes bytes = AreBytes-rest (b ∷ []) bytes (b ∷ bytes) refl fits in
    elim (chosen (eqb b 1) (int_at bytes) (cond (eqb b 2) (text_at bytes >>= λ t. Some (Str t.0, t.1)) None) (Some (v, rest)) e) [
      | inl h ↦ (
          let step = bind_some (i64_at bytes) (λ n. Some (Int n.0, n.1)) (v, rest) h.1 in
          let t = i64_code.takes bytes step.0.0 step.0.1 behind step.1 in
          let whole : b ∷ bytes ≡ 1 ∷ (i64_bytes step.0.0 ++ step.0.1) = ap (λ x. x ∷ bytes) (eqb-true b 1 h.0) ∙ ap (λ xs. 1 ∷ xs) t.1 in
          subst (λ (w : Value × List ℕ). IsHeld w.0 × (b ∷ bytes ≡ held_bytes w.0 ++ w.1)) (some_is _ (v, rest) step.2) (t.0, whole))
      | inr h ↦ elim (chosen (eqb b 2) (text_at bytes >>= λ t. Some (Str t.0, t.1)) None (Some (v, rest)) h.1) [
        | inl g ↦ (
            let step = bind_some (text_at bytes) (λ t. Some (Str t.0, t.1)) (v, rest) g.1 in
            let t = text_code.takes bytes step.0.0 step.0.1 behind step.1 in
            let whole : b ∷ bytes ≡ 2 ∷ (sized step.0.0 ++ step.0.1) = ap (λ x. x ∷ bytes) (eqb-true b 2 g.0) ∙ ap (λ xs. 2 ∷ xs) t.1 in
            subst (λ (w : Value × List ℕ). IsHeld w.0 × (b ∷ bytes ≡ held_bytes w.0 ++ w.1)) (some_is _ (v, rest) step.2) (t.0, whole))
        | inr g ↦ absurd (let none = g.1 in cc)
      ]
    ]

held_again : (v : Value) (rest : List ℕ) → IsHeld v → held_at (held_bytes v ++ rest) ≡ Some (v, rest)
unfolding held_at
held_again (Int n) rest fits = rw (i64_code.again n rest fits) refl
held_again (Str t) rest fits = rw (text_code.again t rest fits) refl

held_code : IsCode held_bytes IsHeld held_at
held_code = record { takes = held_takes; again = held_again }

value_seen : IsSeen is_row_value value_of (λ v. (v.0.0, v.1)) (λ p. (p.0 < 2 ^ 64) × IsHeld p.1) IsRowValue
value_seen = record {
  there = λ p fits good. (let both = and_parts (ltb p.0 (2 ^ 16)) (has_kind (kind_of_number p.0) p.1) good in (record { property = ltb-true p.0 (2 ^ 16) both.0; kind = both.1; held = fits.1 }, refl));
  here = λ v fits. ((omega (arith, fits.property), fits.held), and_from (ltb v.0.0 (2 ^ 16)) (has_kind (kind_of_number v.0.0) v.1) (lt-ltb v.0.0 (2 ^ 16) fits.property) fits.kind, refl);
}

value_code : IsCode value_bytes IsRowValue value_at
unfolding value_at
value_code = seen_code is_row_value value_of (λ v. (v.0.0, v.1)) (λ p. varint p.0 ++ held_bytes p.1) (λ p. (p.0 < 2 ^ 64) × IsHeld p.1) IsRowValue (both_at number_at held_at) value_seen
    (both_code varint (λ n. n < 2 ^ 64) number_at held_bytes IsHeld held_at number_code held_code)

abbrev properties : List (PropNo × Value) → List ℕ
properties values = map (λ value. value.0.0) values

values_code : IsCode (counted value_bytes) AreRowValues values_at
unfolding values_at
values_code = seen_code (λ values. rises (properties values)) (λ vs. vs) (λ vs. vs) (counted value_bytes) (FitAll IsRowValue) AreRowValues (counted_at value_at)
    (record {
      there = λ vs fits good. (record { few = fits.0; each = fits.1; ascend = sorted_from_rises (properties vs) good }, refl);
      here = λ vs fits. ((fits.few, fits.each), rises_from_sorted (properties vs) fits.ascend, refl);
    })
    (counted_code value_bytes IsRowValue value_at value_code)

-- what may stand in the fields
abbrev FitFields : Fields → Type 0
FitFields f = (f.0 < 2 ^ 32) × (IsPath f.1.0 × ((f.1.1.0 < 2 ^ 64) × (⊤ × AreRowValues f.1.1.1.1)))

abbrev fields_bytes : Fields → List ℕ
fields_bytes f = varint f.0 ++ (sized f.1.0 ++ (varint f.1.1.0 ++ ((state_byte f.1.1.1.0 ∷ []) ++ counted value_bytes f.1.1.1.1)))

fields_code : IsCode fields_bytes FitFields fields_at
unfolding fields_at
fields_code = both_code varint _ doc_at _ _ _ doc_code (both_code sized _ path_at _ _ _ path_code (both_code varint _ number_at _ _ _ number_code (both_code (λ s. state_byte s ∷ []) _ state_at _ _ _ state_code values_code)))

may_from_test : (s : RowState) (values : List (PropNo × Value)) → may_have s values ≡ true → MayHave s values
may_from_test Kept values e = tt
may_from_test Erased values e = nil_from_length values (eqb-true (length values) 0 e)

test_from_may : (s : RowState) (values : List (PropNo × Value)) → MayHave s values → may_have s values ≡ true
test_from_may Kept values may = refl
test_from_may Erased values may = ap (λ vs. eqb (length vs) 0) may

pub row_code : IsCode row_bytes IsRow row_at
unfolding row_at
row_code = seen_code (λ f. may_have f.1.1.1.0 f.1.1.1.1) row_of fields_of fields_bytes FitFields IsRow fields_at
    (record {
      there = λ f fits good. (record { doc = fits.0; path = fits.1.0; seq = fits.1.1.0; state = may_from_test f.1.1.1.0 f.1.1.1.1 good; values = fits.1.1.1.1 }, refl);
      here = λ r fits. ((fits.doc, (fits.path, (fits.seq, (tt, fits.values)))), test_from_may r.state r.values fits.state, refl);
    })
    fields_code

rows_code : IsCode (counted row_bytes) (FitAll IsRow) (counted_at row_at)
rows_code = counted_code row_bytes IsRow row_at row_code

-- no spelling begins another
pub one_rows : (a b : List Row) (rest more : List ℕ) → IsRows a → IsRows b → rows_spelling a ++ rest ≡ rows_spelling b ++ more → a ≡ b
unfolding rows_spelling
one_rows a b rest more p q e =
    let tail : counted row_bytes a ++ rest ≡ counted row_bytes b ++ more =
    append_cancel_left (codes "CIW1") _ _ (sym (append_assoc (codes "CIW1") (counted row_bytes a) rest) ∙ e ∙ append_assoc (codes "CIW1") (counted row_bytes b) more) in
    (one_value (counted row_bytes) (FitAll IsRow) (counted_at row_at) rows_code a b rest more (p.few, p.each) (q.few, q.each) tail).0

tag_is : (tag : List ℕ) → bytes_eq tag (codes "CIW1") ≡ true → tag ≡ codes "CIW1"
tag_is tag e = (bytes_eq-Decides tag (codes "CIW1")).0 e

magic_takes : (bytes rest : List ℕ) → magic_at bytes ≡ Some rest → bytes ≡ codes "CIW1" ++ rest
magic_takes bytes rest e =
    let step = bind_some (bytes_at 4 bytes) (λ tag. cond (bytes_eq tag.0 (codes "CIW1")) (Some tag.1) None) rest e in
    let last = guard_holds (bytes_eq step.0.0 (codes "CIW1")) step.0.1 rest step.2 in
    let front = bytes_takes 4 bytes step.0.0 step.0.1 step.1 in
    let same : step.0.0 ≡ codes "CIW1" = tag_is step.0.0 last.0 in
    front.1 ∙ ap (λ f. f ++ step.0.1) same ∙ ap (λ r. codes "CIW1" ++ r) last.1

magic_again : (rest : List ℕ) → magic_at (codes "CIW1" ++ rest) ≡ Some rest
magic_again rest = rw (bytes_again (codes "CIW1") rest 4 refl) refl

abbrev docs : List Row → List ℕ
docs rows = map (λ row. row.doc.0) rows

-- what is read is spelled, all of it
pub rows_take : (bytes : List ℕ) (rows : List Row) → AreBytes bytes → rows_of bytes ≡ Some rows → IsRows rows × (rows_spelling rows ≡ bytes)
unfolding rows_of rows_spelling
rows_take bytes rows fits e =
    let first = bind_some (magic_at bytes) (λ rest. counted_at row_at rest >>= λ rows. cond (eqb (length rows.1) 0 && rises (docs rows.0)) (Some rows.0) None) rows e in
    let second = bind_some (counted_at row_at first.0) (λ rows. cond (eqb (length rows.1) 0 && rises (docs rows.0)) (Some rows.0) None) rows first.2 in
    let last = guard_holds (eqb (length second.0.1) 0 && rises (docs second.0.0)) second.0.0 rows second.2 in
    let tests = and_parts (eqb (length second.0.1) 0) (rises (docs second.0.0)) last.0 in
    let front = magic_takes bytes first.0 first.1 in
    let t = rows_code.takes first.0 second.0.0 second.0.1 (AreBytes-rest (codes "CIW1") first.0 bytes front fits) second.1 in
    let none : second.0.1 ≡ [] = nil_from_length second.0.1 (eqb-true _ 0 tests.0) in
    let whole : bytes ≡ codes "CIW1" ++ counted row_bytes second.0.0 =
    front ∙ ap (λ r. codes "CIW1" ++ r) (t.1 ∙ ap (λ r. counted row_bytes second.0.0 ++ r) none ∙ append-nil (counted row_bytes second.0.0)) in
    subst (λ (rs : List Row). IsRows rs × (codes "CIW1" ++ counted row_bytes rs ≡ bytes)) last.1
    (record { few = t.0.0; each = t.0.1; ascend = sorted_from_rises (docs second.0.0) tests.1 }, sym whole)

-- what is spelled is read
pub rows_again : (rows : List Row) → IsRows rows → rows_of (rows_spelling rows) ≡ Some rows
unfolding rows_of rows_spelling
rows_again rows is =
    let read : counted_at row_at (counted row_bytes rows) ≡ Some (rows, []) = ap (counted_at row_at) (sym (append-nil (counted row_bytes rows))) ∙ rows_code.again rows [] (is.few, is.each) in
    rw (magic_again (counted row_bytes rows), read, rises_from_sorted (docs rows) is.ascend) refl
