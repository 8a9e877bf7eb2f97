use Rattle.std.proofs.Common.{rules, ◌≡◌, ℕ, ◌^◌, ◌<◌, ◌≤◌, true, false, List, drop, length, get_or, if◌then◌else◌, Some, None, Result, Ok, Err, ℤ, pos, neg_ℤ, refl, sym, ap, ◌∙◌, inl, inr, arith}
use Rattle.std.specs.List.{list_all}
use Rattle.std.specs.Result.{OkIff, result_ok}
use Rattle.std.specs.Str.Parse.{ParsesSigned}
use Rattle.std.proofs.lemmas.Bool.{and_parts, cases_Bool, eqb-true, le-leb, leb-true, lt-leb, lt-ltb, le-ltb}
use Rattle.std.proofs.lemmas.Bool.{cases_lt}
use Rattle.std.proofs.lemmas.Str.Parse.{IsNumeralModel, numerals_by_fold, parse_signed_digits, parse_signed_minus}
use mir.Syntax.{w64}
use Rattle.ci_dialect.specs.Values.{fitting, is_digit, is_digits, is_negative, number_of, unsigned, value_behind}
use Rattle.ci_query.proofs.value.number_of.Goals as goal

own : IsNumeralModel (λ ds. list_all is_digit ds ≡ true) (value_behind 0)
own = numerals_by_fold _ (search rules) value_behind (search rules)

negative-fits : {E : Type 0} (r : Result ℤ E) (n : ℕ) (P Q : Type 0) → P → Q → OkIff r (P × Q × (n ≤ 2 ^ 63)) (neg_ℤ (pos n)) → result_ok r ≡ fitting true n
negative-fits (Ok z) n P Q p q is = rw (le-leb n (2 ^ 63) is.0.2) (ap Some is.1)
negative-fits (Err e) n P Q p q is =
    elim (cases_lt (2 ^ 63) n) [
      | inl long ↦ rw (lt-leb n (2 ^ 63) long) refl
      | inr fits ↦ absurd (is (p, q, fits))
    ]

positive-fits : {E : Type 0} (r : Result ℤ E) (n : ℕ) (Q : Type 0) → Q → OkIff r (Q × (n < 2 ^ 63)) (pos n) → result_ok r ≡ fitting false n
positive-fits (Ok z) n Q q is = rw (lt-ltb n (2 ^ 63) is.0.1) (ap Some is.1)
positive-fits (Err e) n Q q is =
    elim (cases_lt n (2 ^ 63)) [
      | inl fits ↦ absurd (is (q, fits))
      | inr long ↦ rw (le-ltb n (2 ^ 63) long) refl
    ]

number-digits : (text : List ℕ) → is_digits (unsigned text) ≡ true → number_of text ≡ fitting (is_negative text) (value_behind 0 (unsigned text))
number-digits text digits = ap (λ b. if b then fitting (is_negative text) (value_behind 0 (unsigned text)) else None) digits

-- what is parsed of digits behind an optional minus sign
number-parsed : {E : Type 0} (text : List ℕ) (r : Result ℤ E) → ParsesSigned w64 10 text r → is_digits (unsigned text) ≡ true → result_ok r ≡ number_of text
number-parsed text r parsed digits =
    let parts = and_parts _ _ digits in
    let some = leb-true 1 (length (unsigned text)) (and_parts _ _ parts.0).0 in
    elim (cases_Bool (is_negative text)) [
      | inl negative ↦
          let same : unsigned text ≡ drop 1 text = ap (λ b. if b then drop 1 text else text) negative in
          let all : list_all is_digit (drop 1 text) ≡ true = sym (ap (list_all is_digit) same) ∙ parts.1 in
          let count : 0 < length (drop 1 text) = omega (arith, ap length same) in
          let parsed_minus = parse_signed_minus own w64 text r parsed (eqb-true (get_or text 0 0) 45 negative) in
          negative-fits r (value_behind 0 (drop 1 text)) _ _ all count parsed_minus
          ∙ sym (number-digits text digits ∙ ap (λ b. fitting b (value_behind 0 (unsigned text))) negative ∙ ap (λ ds. fitting true (value_behind 0 ds)) same)
      | inr other ↦
          let same : unsigned text ≡ text = ap (λ b. if b then drop 1 text else text) other in
          let all : list_all is_digit text ≡ true = sym (ap (list_all is_digit) same) ∙ parts.1 in
          let count : 0 < length text = omega (arith, ap length same) in
          positive-fits r (value_behind 0 text) _ count (parse_signed_digits own w64 text r parsed all)
          ∙ sym (number-digits text digits ∙ ap (λ b. fitting b (value_behind 0 (unsigned text))) other ∙ ap (λ ds. fitting false (value_behind 0 ds)) same)
    ]

pub returns : goal.returns
returns c =
    let digits = ap is_digits (sym c.unsigned.ensures) ∙ sym c.is_digits.ensures ∙ c.if-not-is_digits.false in
    c.ok.ensures.value ∙ number-parsed c.args.text.now c.parse.result c.parse.ensures.value.0 digits
