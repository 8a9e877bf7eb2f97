-- Keys that begin as another one stand together, and that one is below none of them.
use Rattle.std.proofs.Common.{◌≡◌, ◌≢◌, ℕ, ◌<◌, ◌==◌, ◌&&◌, Bool, true, false, List, [], ◌∷◌, length, take, inl, inr, refl, sym, ap, subst, ◌∙◌, arith, nat_eq}
use Rattle.std.specs.Cmp.Lexicographic.{bytes_decides, slice_cmp}
use Rattle.std.specs.declared.cmp.Ordering.TheVariants.{Less, Equal, Greater}
use Rattle.std.specs.List.{starts_with}
use Rattle.std.specs.Ordering.{nat_cmp, ordering_then}
use Rattle.std.proofs.lemmas.Bool.{cases_Bool, cases_order, eqb-true, eq-eqb}
use Rattle.ci_base.specs.declared.numbers.PropNo.{PropNo}
use Rattle.ci_keys.specs.declared.key.Key.{Key}
use Rattle.ci_keys.specs.Key.{key_cmp}
use Rattle.ci_part.specs.Range.{begins}
use Rattle.ci_part.specs.View.{IsWithin}

below : (a b : ℕ) → a < b → nat_cmp a b ≡ Less
below a b lt = grind (arith, lt)

level : (a b : ℕ) → a ≡ b → nat_cmp a b ≡ Equal
level a b e = grind (arith, e)

above : (a b : ℕ) → b < a → nat_cmp a b ≡ Greater
above a b gt = grind (arith, gt)

abbrev Begins : List ℕ → List ℕ → Type 0
Begins prefix word = take (length prefix) word ≡ prefix

same_head : (a b : ℕ) (xs ys : List ℕ) → a ∷ xs ≡ b ∷ ys → (a ≡ b) × (xs ≡ ys)
same_head a b xs ys e = (cc, cc)

not_below : (p w : List ℕ) → Begins p w → slice_cmp nat_cmp w p ≢ Less
not_below [] [] begins less = let no : Equal ≡ Less = less in cc
not_below [] (c ∷ w) begins less = let no : Greater ≡ Less = less in cc
not_below (a ∷ p) [] begins less = let no : [] ≡ a ∷ p = begins in cc
not_below (a ∷ p) (c ∷ w) begins less =
    let (head, tail) = same_head c a (take (length p) w) p begins in
    not_below p w tail (sym (ap (λ o. ordering_then o (slice_cmp nat_cmp w p)) (level c a head)) ∙ less)

begins_between : (p w v : List ℕ) → slice_cmp nat_cmp w p ≢ Less → slice_cmp nat_cmp w v ≡ Less → Begins p v → Begins p w
begins_between [] w v from upto begins = refl
begins_between (a ∷ p) w [] from upto begins = let no : [] ≡ a ∷ p = begins in cc
begins_between (a ∷ p) [] (b ∷ v) from upto begins = absurd (from refl)
begins_between (a ∷ p) (c ∷ w) (b ∷ v) from upto begins =
    let (head, tail) = same_head b a (take (length p) v) p begins in
    elim (cases_order c a) [
      | inl same ↦
          let rest = begins_between p w v (λ less. from (ap (λ o. ordering_then o (slice_cmp nat_cmp w p)) (level c a same) ∙ less))
          (sym (ap (λ o. ordering_then o (slice_cmp nat_cmp w v)) (level c b (same ∙ sym head))) ∙ upto) tail in
          λ i. same i ∷ rest i
      | inr (inl lt) ↦ absurd (from (ap (λ o. ordering_then o (slice_cmp nat_cmp w p)) (below c a lt)))
      | inr (inr gt) ↦ let no : Greater ≡ Less = sym (ap (λ o. ordering_then o (slice_cmp nat_cmp w v)) (above c b (subst (λ n. n < c) (sym head) gt))) ∙ upto in cc
    ]

-- ---- the test

both : (a b : Bool) → (a && b) ≡ true → (a ≡ true) × (b ≡ true)
both true b e = (refl, e)
both false b e = let no : false ≡ true = e in cc

pub begins_within : (first key : Key) → begins first key ≡ true → IsWithin first.property first.word key
begins_within first key e =
    let (same, starts) = both (key.property.0 == first.property.0) (starts_with nat_eq key.word first.word) e in
    let number = eqb-true key.property.0 first.property.0 same in
    record { in_property = λ i. record { 0 = number i }; begins = sym ((bytes_decides first.word (take (length first.word) key.word)).0 starts) }

pub within_begins : (first key : Key) → IsWithin first.property first.word key → begins first key ≡ true
within_begins first key is =
    let same : (key.property.0 == first.property.0) ≡ true = eq-eqb key.property.0 first.property.0 (ap (λ (p : PropNo). p.0) is.in_property) in
    let starts : starts_with nat_eq key.word first.word ≡ true = (bytes_decides first.word (take (length first.word) key.word)).1 (sym is.begins) in
    rw (same, starts) refl

-- the first one is above none that begins so
begins_from : (first key : Key) → begins first key ≡ true → key_cmp key first ≢ Less
begins_from first key e less =
    let is = begins_within first key e in
    not_below first.word key.word is.begins (sym (ap (λ o. ordering_then o (slice_cmp nat_cmp key.word first.word)) (level key.property.0 first.property.0 (ap (λ (p : PropNo). p.0) is.in_property))) ∙ less)

pub below_begins : (first key : Key) → key_cmp key first ≡ Less → begins first key ≡ false
below_begins first key less =
    elim (cases_Bool (begins first key)) [
      | inl begun ↦ absurd (begins_from first key begun less)
      | inr differs ↦ differs
    ]

-- behind one that doesn't begin so none does
later_begins : (first key later : Key) → key_cmp key first ≢ Less → key_cmp key later ≡ Less → begins first later ≡ true → begins first key ≡ true
later_begins first key later from upto e =
    let is = begins_within first later e in
    let there : later.property.0 ≡ first.property.0 = ap (λ (p : PropNo). p.0) is.in_property in
    elim (cases_order key.property.0 first.property.0) [
      | inl same ↦
          let words = begins_between first.word key.word later.word (λ less. from (ap (λ o. ordering_then o (slice_cmp nat_cmp key.word first.word)) (level key.property.0 first.property.0 same) ∙ less))
          (sym (ap (λ o. ordering_then o (slice_cmp nat_cmp key.word later.word)) (level key.property.0 later.property.0 (same ∙ sym there))) ∙ upto) is.begins in
          within_begins first key (record { in_property = λ i. record { 0 = same i }; begins = words })
      | inr (inl lt) ↦ absurd (from (ap (λ o. ordering_then o (slice_cmp nat_cmp key.word first.word)) (below key.property.0 first.property.0 lt)))
      | inr (inr gt) ↦ let no : Greater ≡ Less = sym (ap (λ o. ordering_then o (slice_cmp nat_cmp key.word later.word)) (above key.property.0 later.property.0 (subst (λ n. n < key.property.0) (sym there) gt))) ∙ upto in cc
    ]

pub none_begins : (first key later : Key) → key_cmp key first ≢ Less → key_cmp key later ≡ Less → begins first key ≡ false → begins first later ≡ false
none_begins first key later from upto out =
    elim (cases_Bool (begins first later)) [
      | inl begun ↦ let both : true ≡ false = sym (later_begins first key later from upto begun) ∙ out in cc
      | inr differs ↦ differs
    ]
