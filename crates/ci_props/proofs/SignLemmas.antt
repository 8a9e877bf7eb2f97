-- One sign of a pattern beside one character of a text, and how far a pattern was compared.
use Rattle.std.proofs.Common.{◌≡◌, ◌≢◌, ◌==◌, ◌||◌, ◌&&◌, ℕ, zero, suc, ◌+◌, Bool, true, false, List, [], ◌∷◌, IsUtf8, chars, drop, encode_utf8_all, length, refl, sym, ap, ◌∙◌, arith}
use Rattle.std.specs.List.{list_any}
use Rattle.std.proofs.lemmas.Bool.{and_parts, eq-eqb, eqb-false, false_from_ne_true, ne_eqb}
use Rattle.std.proofs.lemmas.List.{drop-drop}
use Rattle.std.proofs.lemmas.Str.{encodes-chars}
use Rattle.ci_props.specs.Pattern.{ends, matches, splits}
use Rattle.ci_props.specs.Stops.{StopsAtStar}
use Rattle.ci_props.proofs.EndLemmas.{any_end-drop, any_end-later, drop-any_end, same_test}

-- a sign other than a star is compared with the first character
matches-plain : (sign : ℕ) (p text : List ℕ) → sign ≢ 42 → matches (sign ∷ p) text ≡ splits (λ c. sign == 63 || sign == c) (matches p) text
matches-plain sign p text ne = rw (ne_eqb sign 42 ne) refl

-- a star is compared with the ends
matches-star : (sign : ℕ) (p text : List ℕ) → sign ≡ 42 → matches (sign ∷ p) text ≡ list_any (matches p) (ends text)
matches-star sign p text e = rw (eq-eqb sign 42 e) refl

splits-behind : (f : ℕ → Bool) (g : List ℕ → Bool) (text : List ℕ) → splits f g text ≡ true → g (drop 1 text) ≡ true
splits-behind f g [] h = cc h
splits-behind f g (c ∷ cs) h = (and_parts (f c) (g cs) h).1

-- the sign stands for the character
step : (sign c : ℕ) (p cs : List ℕ) → sign ≢ 42 → (sign == 63 || sign == c) ≡ true → matches (sign ∷ p) (c ∷ cs) ≡ matches p cs
step sign c p cs ne is = matches-plain sign p (c ∷ cs) ne ∙ ap (λ b. b && matches p cs) is

step-later : (sign c : ℕ) (p cs : List ℕ) (n : ℕ) → sign ≢ 42 → matches (sign ∷ p) (drop n (c ∷ cs)) ≡ true → matches p (drop n cs) ≡ true
step-later sign c p cs n ne h =
    let plain = sym (matches-plain sign p (drop n (c ∷ cs)) ne) ∙ h in
    let behind = splits-behind (λ d. sign == 63 || sign == d) (matches p) (drop n (c ∷ cs)) plain in
    let count : n + 1 ≡ suc n = omega arith in
    let one_more : drop 1 (drop n (c ∷ cs)) ≡ drop n cs = drop-drop 1 n (c ∷ cs) ∙ ap (λ k. drop k (c ∷ cs)) count in
    ap (matches p) (sym one_more) ∙ behind

-- the sign doesn't stand for the character, or there is none
matches-apart : (sign c : ℕ) (p cs : List ℕ) → sign ≢ 42 → (sign == 63 || sign == c) ≡ false → matches (sign ∷ p) (c ∷ cs) ≡ false
matches-apart sign c p cs ne not_so = matches-plain sign p (c ∷ cs) ne ∙ ap (λ b. b && matches p cs) not_so

matches-short : (sign : ℕ) (p : List ℕ) (n : ℕ) → sign ≢ 42 → matches (sign ∷ p) (drop n []) ≡ false
matches-short sign p zero ne = matches-plain sign p [] ne
matches-short sign p (suc n) ne = matches-plain sign p [] ne

nothing-more : (t cs : List ℕ) → encode_utf8_all cs ≡ t → (length t == 0) ≡ false → matches [] cs ≡ false
nothing-more t [] spells some = let none : length t ≡ 0 = ap length (sym spells) in absurd (eqb-false (length t) 0 some none)
nothing-more t (c ∷ cs) spells some = refl

-- the pattern ends, and the text has a character more
pub matches-ended : (p : List ℕ) (t : List ℕ) → IsUtf8 t → p ≡ [] → (length t == 0) ≡ false → matches p (chars t) ≡ false
matches-ended p t utf8 ended some = ap (λ x. matches x (chars t)) ended ∙ nothing-more t (chars t) (encodes-chars t utf8) some

pub matches-apart_here : (p t q u : List ℕ) (sign c : ℕ) → p ≡ sign ∷ q → t ≡ c ∷ u → sign ≢ 42 → (sign == 63 || sign == c) ≡ false → matches p t ≡ false
matches-apart_here p t q u sign c pattern rest ne not_so =
    ap (λ x. matches x t) pattern ∙ ap (matches (sign ∷ q)) rest ∙ matches-apart sign c q u ne not_so

-- what is left of a pattern and of a text decides, also at each later place of the text
pub record Compares (whole text pattern rest : List ℕ) : Type 0 where
  pub same : matches whole text ≡ matches pattern rest
  pub later : (n : ℕ) → matches whole (drop n text) ≡ true → matches pattern (drop n rest) ≡ true

pub Compares-step : (whole text p q t u : List ℕ) (sign c : ℕ) → Compares whole text p t → p ≡ sign ∷ q → t ≡ c ∷ u → sign ≢ 42 → (sign == 63 || sign == c) ≡ true → Compares whole text q u
Compares-step whole text p q t u sign c so_far pattern rest ne is = record {
  same = so_far.same ∙ ap (λ x. matches x t) pattern ∙ ap (matches (sign ∷ q)) rest ∙ step sign c q u ne is;
  later = λ n h.
      let here : matches (sign ∷ q) (drop n (c ∷ u)) ≡ true = sym (ap (λ x. matches x (drop n t)) pattern ∙ ap (λ x. matches (sign ∷ q) (drop n x)) rest) ∙ so_far.later n h in
      step-later sign c q u n ne here;
}

-- the text ends, and the pattern wants a character more
pub Compares-short : (whole text p q : List ℕ) (sign : ℕ) (t : List ℕ) → Compares whole text p t → p ≡ sign ∷ q → t ≡ [] → sign ≢ 42 → (n : ℕ) → matches whole (drop n text) ≡ false
Compares-short whole text p q sign t so_far pattern rest ne n =
    false_from_ne_true (matches whole (drop n text)) (λ h.
    let here : matches (sign ∷ q) (drop n []) ≡ true = sym (ap (λ x. matches x (drop n t)) pattern ∙ ap (λ x. matches (sign ∷ q) (drop n x)) rest) ∙ so_far.later n h in
    let not_so = matches-short sign q n ne in cc (here, not_so))

-- a star in front of a pattern that stops at a star says no more than the later star alone
pub star-star : (p t q u : List ℕ) → StopsAtStar p t q u → matches (42 ∷ chars p) (chars t) ≡ matches (42 ∷ chars q) (chars u)
star-star p t q u stop =
    same_test (matches (42 ∷ chars p) (chars t)) (matches (42 ∷ chars q) (chars u))
    (λ h. let found = any_end-drop (matches (chars p)) (chars t) h in any_end-later (matches (chars q)) found.0 (chars u) (stop.later found.0 found.1))
    (λ h. drop-any_end (matches (chars p)) 0 (chars t) (stop.same ∙ h))
