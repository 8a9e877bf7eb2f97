use Rattle.std.proofs.Common.{rules, arith, ◌≡◌, ◌≢◌, ◌==◌, ℕ, ◌-◌, ◌<◌, ◌≤◌, List, length, drop, get_or, ap, ◌∙◌, sym, lit<, not}
use Rattle.std.specs.List.{after_last}
use Rattle.std.proofs.lemmas.List.Sums.{suffix_len_is}
use Rattle.std.proofs.lemmas.Str.Pattern.{rfind_char}
use Rattle.ci_base.proofs.path_text.PathText.last_part.Goals as goal

-- behind the last slash stands the last part
after_last-slash : (xs : List ℕ) (n : ℕ) → n ≤ length xs → ((k : ℕ) → n ≤ k → k < length xs → get_or xs k 0 ≢ 47) → (0 < n → get_or xs (n - 1) 0 ≡ 47) → drop n xs ≡ after_last (λ b. b == 47) xs
after_last-slash xs n within none slash =
    let e = suffix_len_is (λ b. not (b == 47)) xs n 0 within (λ k from to. grind (arith, none k from to)) (λ some. grind (arith, slash some)) in
    let places : n ≡ length xs - (length xs - n) = omega arith in
    ap (λ m. drop m xs) places ∙ sym (ap (λ m. drop (length xs - m) xs) e)

pub returns-in-Some : goal.returns-in-Some
returns-in-Some c =
    let found = rw c.in-Some.is at (rfind_char 47 c.as_str-text.result.now c.rfind.result c.rfind.ensures.cases (lit< tt)) in
    let text : c.as_str-text.result.now ≡ c.args.self.now = cc in
    c.range_from.ensures.value
    ∙ after_last-slash _ _ (omega (arith, found.0)) (λ k from to. found.2 k (omega arith) to) (λ _. search (rules, found.1))
    ∙ ap (after_last (λ b. b == 47)) text

pub returns-in-None : goal.returns-in-None
returns-in-None c =
    let none = rw c.in-None.is at (rfind_char 47 c.as_str-text.result.now c.rfind.result c.rfind.ensures.cases (lit< tt)) in
    let text : c.as_str-text.result.now ≡ c.args.self.now = cc in
    after_last-slash c.as_str-text.result.now 0 (omega arith) (λ k _ to. none k to) (λ some. absurd (omega arith))
    ∙ ap (after_last (λ b. b == 47)) text
