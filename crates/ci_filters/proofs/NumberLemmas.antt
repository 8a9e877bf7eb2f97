-- What is read of a number.
use Rattle.std.proofs.Common.{◌≡◌, ◌≢◌, ℕ, ◌≤◌, ◌^◌, true, false, eqb, leb, List, [], ◌∷◌, length, get_or, ℤ, pos, negsuc, Some, None, Result, Ok, Err, FitsSigned, refl, ap, arith, rules, inl, inr, ne_eqb, ltb-true, lt-ltb, leb-true}
use Rattle.std.proofs.lemmas.Bool.{and_parts, cases_Bool}
use Rattle.std.proofs.lemmas.Str.Parse.{IsDigitsTest, IsNumeralModel, numerals_by_value}
use Rattle.std.specs.Char.{is_ascii_digit}
use Rattle.std.specs.Int.{w64}
use Rattle.std.specs.List.{list_all}
use Rattle.std.specs.Result.{result_ok}
use Rattle.std.specs.Str.Parse.{IsNumeral, ParsesSigned, digits_value, signed_digits_value, without_leading_sign}
use Rattle.ci_filters.specs.Head.{fits, is_number, number_of, without_minus}

-- texts of digits, by a test
digits : IsDigitsTest (λ ds. list_all is_ascii_digit ds ≡ true)
digits = search rules

own : IsNumeralModel (λ ds. list_all is_ascii_digit ds ≡ true) (digits_value 10)
own = numerals_by_value _ digits

first_digit : (ds : List ℕ) → list_all is_ascii_digit ds ≡ true → get_or ds 0 0 ≢ 43
first_digit [] all e = cc
first_digit (c ∷ ds) all e =
    let parts = digits.parts c ds all in
    let low : 48 ≤ c = parts.0.0 in omega arith

-- behind a minus or none, digits are what a sign is read before
same_digits : (value : List ℕ) → list_all is_ascii_digit (without_minus value) ≡ true
    → without_leading_sign value ≡ without_minus value
same_digits value all =
    elim (cases_Bool (eqb (get_or value 0 0) 45)) [
      | inl minus ↦ rw minus refl
      | inr plain ↦ (
          let here : list_all is_ascii_digit value ≡ true = rw plain at all in
          rw (plain, ne_eqb (get_or value 0 0) 43 (first_digit value here)) refl)
    ]

numeral : (value : List ℕ) → is_number value ≡ true → IsNumeral 10 (without_leading_sign value)
numeral value number =
    let outer = and_parts _ (list_all is_ascii_digit (without_minus value)) number in
    let inner = and_parts (leb 1 (length (without_minus value))) (leb (length (without_minus value)) 19) outer.0 in
    let some : 1 ≤ length (without_minus value) = leb-true 1 (length (without_minus value)) inner.0 in
    rw (same_digits value outer.1) (omega arith, own.to (without_minus value) outer.1)

fits-true : (z : ℤ) → FitsSigned w64 z → fits z ≡ true
fits-true (pos n) f = lt-ltb n (2 ^ 63) f.sfits
fits-true (negsuc n) f = lt-ltb n (2 ^ 63) f.sfits

fits-from : (z : ℤ) → fits z ≡ true → FitsSigned w64 z
fits-from (pos n) f = record { sfits = ltb-true n (2 ^ 63) f }
fits-from (negsuc n) f = record { sfits = ltb-true n (2 ^ 63) f }

-- of a number's text, what is parsed is the number
pub number_parsed : {E : Type 0} (value : List ℕ) (read : Result ℤ E) → ParsesSigned w64 10 value read
    → is_number value ≡ true → result_ok read ≡ number_of value
unfolding number_of
number_parsed value (Ok z) parsed number =
    rw (number, fits-true (signed_digits_value 10 value) parsed.0.1) (ap (λ n. Some n) parsed.1)
number_parsed value (Err e) parsed number =
    elim (cases_Bool (fits (signed_digits_value 10 value))) [
      | inl there ↦ absurd (parsed (numeral value number, fits-from (signed_digits_value 10 value) there))
      | inr other ↦ rw (number, other) refl
    ]

-- other texts are no number
pub number_of-none : (value : List ℕ) → is_number value ≡ false → number_of value ≡ None
unfolding number_of
number_of-none value other = rw other refl

pub without_minus-some : (value digits : List ℕ) → value ≡ 45 ∷ digits → without_minus value ≡ digits
without_minus-some value digits e = rw e refl

pub without_minus-none : (value : List ℕ) → ((rest : List ℕ) → value ≢ 45 ∷ rest) → without_minus value ≡ value
without_minus-none [] none = refl
without_minus-none (c ∷ value) none =
    let other : c ≢ 45 = λ e. none value (ap (λ b. b ∷ value) e) in
    rw (ne_eqb c 45 other) refl
