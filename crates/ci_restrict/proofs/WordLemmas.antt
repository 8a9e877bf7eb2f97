-- The places of words and of phrases.
use Rattle.std.proofs.Common.{◌≡◌, ℕ, zero, suc, ◌+◌, ◌-◌, ◌==◌, ◌&&◌, ◌||◌, Bool, true, false, List, [], ◌∷◌, All, Contains, bytes_eq, cond, filter, map, append-nil, inl, inr, refl, sym, ap, ◌∙◌, subst, arith}
use Rattle.std.specs.declared.cmp.Ordering.TheVariants.{Less}
use Rattle.std.specs.List.{AllByRecursion, list_any}
use Rattle.std.proofs.lemmas.Bool.{and_parts, cases_Bool, eq-eqb, eqb-true, false_from_ne_true}
use Rattle.std.proofs.lemmas.Bool.Decides.{nat_tests}
use Rattle.std.proofs.lemmas.Cmp.{tied_itself}
use Rattle.std.proofs.lemmas.List.Elements.{All-contains, filter_agree}
use Rattle.std.proofs.lemmas.List.Folds.{list_any-append}
use Rattle.std.proofs.lemmas.Map.Keys.{non_decreasing_from_sorted, sorted_head, sorted_tail}
use Rattle.std.proofs.lemmas.Slice.Eq.{bytes_eq-Decides}
use Rattle.ci_base.specs.declared.numbers.Place.{Place}
use Rattle.ci_base.specs.declared.numbers.PropNo.{PropNo}
use Rattle.ci_keys.specs.declared.key.Key.{Key}
use Rattle.ci_keys.specs.Entry.{StandBeside}
use Rattle.ci_keys.specs.Key.{key_cmp}
use Rattle.ci_keys.specs.Order.{Ascends}
use Rattle.ci_keys.specs.Places.{IsPlaces}
use Rattle.ci_keys.proofs.Keys.{key_cmp_total}
use Rattle.ci_dialect.specs.Places.{Words, follow, has_slot, is_key, places_of, stands_at}
use Rattle.ci_dialect.specs.declared.slots.Slot.{Slot}
use Rattle.ci_restrict.specs.Walk.{Rise, is_between, numbers}
use Rattle.ci_restrict.proofs.WalkLemmas.{stands}

-- ---- tests of lists

pub any-same : {A : Type 0} (f g : A → Bool) (xs : List A) → ((x : A) → f x ≡ g x) → list_any f xs ≡ list_any g xs
any-same f g [] same = refl
any-same f g (x ∷ xs) same = ap (λ b. b || list_any f xs) (same x) ∙ ap (λ b. g x || b) (any-same f g xs same)

any-map : {A B : Type 0} (f : A → B) (g : B → Bool) (xs : List A) → list_any g (map f xs) ≡ list_any (λ x. g (f x)) xs
any-map f g [] = refl
any-map f g (x ∷ xs) = ap (λ b. g (f x) || b) (any-map f g xs)

filter-filter : (f g : ℕ → Bool) (xs : List ℕ) → filter g (filter f xs) ≡ filter (λ x. f x && g x) xs
filter-filter f g [] = refl
filter-filter f g (x ∷ xs) =
    elim (f x) as (λ b. filter g (cond b (x ∷ filter f xs) (filter f xs)) ≡ cond (b && g x) (x ∷ filter (λ y. f y && g y) xs) (filter (λ y. f y && g y) xs)) [
      | true ↦ ap (λ ys. cond (g x) (x ∷ ys) ys) (filter-filter f g xs)
      | false ↦ filter-filter f g xs
    ]

pub filter-all : (xs : List ℕ) → filter (λ x. true) xs ≡ xs
filter-all [] = refl
filter-all (x ∷ xs) = ap (λ ys. x ∷ ys) (filter-all xs)

-- ---- the places beside a key

module _ (key : Key) where
  abbrev is-its : Key → Bool
  is-its k = is_key key.property key.word false k

  is-it : (k : Key) → is-its k ≡ true → k ≡ key
  is-it k passes =
      let both = and_parts (k.property.0 == key.property.0) (bytes_eq k.word key.word) passes in
      let number = eqb-true k.property.0 key.property.0 both.0 in
      let word = (bytes_eq-Decides k.word key.word).0 both.1 in
      ap (λ n. record { property = record { 0 = n }; word = k.word }) number ∙ ap (λ w. record { property = key.property; word = w }) word

  it-is : (k : Key) → k ≡ key → is-its k ≡ true
  it-is k same =
      subst (λ k. is-its k ≡ true) (sym same) (rw (eq-eqb key.property.0 key.property.0 refl) ((bytes_eq-Decides key.word key.word).1 refl))

  -- a key is below none that it equals, so that only one word has it
  none-behind : (words : Words) → AllByRecursion (λ k. key_cmp key k ≡ Less) (map (λ word. word.0) words) → places_of words key.property key.word false ≡ []
  none-behind [] below = refl
  none-behind (w ∷ words) below =
      let other = false_from_ne_true (is-its w.0) (λ passes. let tied = tied_itself key_cmp_total key in let less = subst (λ k. key_cmp key k ≡ Less) (is-it w.0 passes) below.0 in cc) in
      rw other (none-behind words below.1)

  no-key : (places : List Place) → Contains {X = Key × List Place} [] (key, places) → ⊥
  no-key places (k, lt, is) = omega arith

  behind-first : (w : Key × List Place) (words : Words) (places : List Place) → is-its w.0 ≡ false → Contains (w ∷ words) (key, places) → Contains words (key, places)
  behind-first w words places fails (zero, lt, is) = let passes = it-is w.0 (ap (λ x. x.0) is) in cc
  behind-first w words places fails (suc k, lt, is) = (k, omega arith, is)

  pub beside-are : (words : Words) (places : List Place) → Ascends (λ word. word.0) key_cmp words → StandBeside key words places → numbers places ≡ places_of words key.property key.word false
  beside-are [] [] up beside = refl
  beside-are [] (p ∷ places) up beside = absurd (no-key (p ∷ places) (beside.only (λ e. cc)))
  beside-are (w ∷ words) places up beside =
      elim (cases_Bool (is-its w.0)) [
        | inl passes ↦
            let same = is-it w.0 passes in
            let below = sorted_head key_cmp w.0 (map (λ word. word.0) words) up in
            let none = none-behind words (subst (λ k. AllByRecursion (λ y. key_cmp k y ≡ Less) (map (λ word. word.0) words)) same below) in
            rw (passes, beside.found w.1 (0, omega arith, ap (λ k. (k, w.1)) same), none, append-nil (numbers w.1)) refl
        | inr fails ↦
            let rest : StandBeside key words places = record {
              found = λ others has. beside.found others (suc has.0, omega (arith, has.1), has.2);
              only = λ some. behind-first w words places fails (beside.only some);
            } in
            rw fails (beside-are words places (sorted_tail key_cmp w.0 (map (λ word. word.0) words) up) rest)
      ]

  pub beside-rise : (words : Words) (places : List Place) → All (λ word. IsPlaces word.1) words → StandBeside key words places → Rise places
  beside-rise words [] all beside = λ i j d le lt. absurd (omega arith)
  beside-rise words (p ∷ places) all beside =
      let are = All-contains (λ word. IsPlaces word.1) words (key, p ∷ places) all (beside.only (λ e. cc)) in
      non_decreasing_from_sorted (numbers (p ∷ places)) are.ascend

-- ---- the word at a place

pub at-place : (words : Words) (property : PropNo) (word : List ℕ) (at : ℕ) → stands_at words property word at ≡ list_any (λ q. q == at) (places_of words property word false)
at-place [] property word at = refl
at-place (w ∷ words) property word at =
    elim (cases_Bool (is_key property word false w.0)) [
      | inl passes ↦
          rw passes (ap (λ b. list_any (λ p. p.0 == at) w.1 || b) (at-place words property word at)
          ∙ ap (λ b. b || list_any (λ q. q == at) (places_of words property word false)) (sym (any-map (λ p. p.0) (λ q. q == at) w.1))
          ∙ sym (list_any-append (λ q. q == at) (numbers w.1) (places_of words property word false)))
      | inr fails ↦ rw fails (at-place words property word at)
    ]

exact : (at q : ℕ) → is_between (at - 0) (at + 0) q ≡ (q == at)
exact at q = grind (arith, nat_tests)

-- those kept at no distance are those at which the word stands
pub with-word : (words : Words) (property : PropNo) (word : List ℕ) (further : ℕ) (xs others : List ℕ) → others ≡ places_of words property word false → filter (stands further 0 others) xs ≡ filter (λ p. stands_at words property word (p + further)) xs
with-word words property word further xs others are =
    filter_agree (stands further 0 others) (λ p. stands_at words property word (p + further))
    (λ p. any-same (is_between (p + further - 0) (p + further + 0)) (λ q. q == p + further) others (exact (p + further)) ∙ ap (list_any (λ q. q == p + further)) are ∙ sym (at-place words property word (p + further))) xs

-- ---- phrases

-- behind the first i slots: that those which were kept and the slots that are left decide
pub follow-more : (words : Words) (property : PropNo) (further : ℕ) (slot : Slot) (more : List Slot) (xs ys : List ℕ) → ys ≡ filter (λ p. has_slot words property (p + further) slot) xs →
    filter (λ p. follow words property (p + further) (slot ∷ more)) xs ≡ filter (λ p. follow words property (p + (further + 1)) more) ys
follow-more words property further slot more xs ys are =
    filter_agree (λ p. follow words property (p + further) (slot ∷ more)) (λ p. has_slot words property (p + further) slot && follow words property (p + (further + 1)) more)
    (λ p. let next : p + further + 1 ≡ p + (further + 1) = omega arith in ap (λ at. has_slot words property (p + further) slot && follow words property at more) next) xs
    ∙ sym (filter-filter (λ p. has_slot words property (p + further) slot) (λ p. follow words property (p + (further + 1)) more) xs)
    ∙ ap (filter (λ p. follow words property (p + (further + 1)) more)) (sym are)
