-- A key is compared where it lies.
use Rattle.std.proofs.Common.{◌≡◌, ◌≢◌, ℕ, ◌+◌, ◌%◌, ◌≤◌, true, false, eqb, ltb, length, take, drop, Some, refl, sym, ap, subst, ◌∙◌, ◌⊎◌, inl, inr, arith}
use Rattle.std.specs.declared.cmp.Ordering.{Ordering}
use Rattle.std.specs.declared.cmp.Ordering.TheVariants.{Less, Equal, Greater}
use Rattle.std.specs.Cmp.Lexicographic.{slice_cmp}
use Rattle.std.specs.Ordering.{nat_cmp, ordering_then}
use Rattle.std.proofs.lemmas.Bool.{cases_order, eqb-true, eqb-false, eq-eqb, ne_eqb, lt-ltb, le-ltb}
use Rattle.ci_keys.specs.Key.{key_cmp}
use Rattle.ci_keys.specs.declared.key.Key.{Key}
use Rattle.ci_segment.specs.Segment.{IsAfter, IsItemAt, Item, Spot, common, leaning, shared}
use Rattle.ci_segment.specs.SegmentReading.{Fields}
use Rattle.ci_segment.specs.Finding.{compared, next_same}
use Rattle.ci_segment.proofs.CommonLemmas.{bool_cases, common_within, take_common}
use Rattle.ci_segment.proofs.ItemLemmas.{fields_of}
use Rattle.ci_segment.proofs.WordsLemmas.{alike, longer, shorter}

-- what is known of a key that is looked for, beside the key at a spot: the key before is below it, and begins with so
-- much of it
pub record IsPast (spot : Spot) (key : Key) (same : ℕ) (b : Key) : Type 0 where
  pub inside : spot.at % 16 ≢ 0
  pub before : spot.before ≡ Some b
  pub below : key_cmp b key ≡ Less
  pub told : same ≡ leaning (Some b) key

abbrev pub Stands : Spot → Key → ℕ → Type 0
Stands spot key same = ((spot.at % 16 ≡ 0) × (same ≡ 0)) ⊎ ((b : Key) × IsPast spot key same b)

-- the words of one property
words_cmp : (a b : Key) → a.property.0 ≡ b.property.0 → key_cmp a b ≡ slice_cmp nat_cmp a.word b.word
words_cmp a b same = let e : nat_cmp a.property.0 b.property.0 ≡ Equal = grind (arith, same) in rw e refl

then_first : (r o : Ordering) → r ≢ Equal → ordering_then r o ≡ r
then_first Less o other = refl
then_first Equal o other = absurd (other refl)
then_first Greater o other = refl

pub property_cmp : (a b : Key) → a.property.0 ≢ b.property.0 → key_cmp a b ≡ nat_cmp a.property.0 b.property.0
property_cmp a b other =
    then_first (nat_cmp a.property.0 b.property.0) (slice_cmp nat_cmp a.word b.word) (λ e. other (let same : a.property.0 ≡ b.property.0 = grind (arith, e) in same))

-- where both lean on nothing, the words are compared whole
whole_words : (f : Fields) (k key : Key) → f.0 ≡ k.property.0 → f.1.0 ≡ 0 → f.1.1.0 ≡ k.word → k.property.0 ≡ key.property.0
    → (compared f key 0 ≡ key_cmp k key) × (next_same f key 0 ≡ leaning (Some k) key)
whole_words f k key p_is s_is w_is same =
    let t1 : eqb f.0 key.property.0 ≡ true = eq-eqb f.0 key.property.0 (p_is ∙ same) in
    let t2 : eqb k.property.0 key.property.0 ≡ true = eq-eqb k.property.0 key.property.0 same in
    let e1 : compared f key 0 ≡ slice_cmp nat_cmp f.1.1.0 key.word = rw (t1, s_is) refl in
    let e2 : next_same f key 0 ≡ 0 + common f.1.1.0 key.word = rw (t1, s_is) refl in
    let e3 : leaning (Some k) key ≡ common k.word key.word = rw t2 refl in (
      e1 ∙ ap (λ w. slice_cmp nat_cmp w key.word) w_is ∙ sym (words_cmp k key same),
      e2 ∙ (let z : 0 + common f.1.1.0 key.word ≡ common f.1.1.0 key.word = omega arith in z) ∙ ap (λ w. common w key.word) w_is ∙ sym e3,
    )

-- in one property with the key before
beside_before : (b k key : Key) (f : Fields) (same : ℕ) → b.property.0 ≡ k.property.0 → k.property.0 ≡ key.property.0 → key_cmp b k ≡ Less → key_cmp b key ≡ Less → same ≡ common b.word key.word
    → f.0 ≡ k.property.0 → f.1.0 ≡ common b.word k.word → f.1.1.0 ≡ drop (common b.word k.word) k.word
    → (compared f key same ≡ key_cmp k key) × (compared f key same ≡ Less → next_same f key same ≡ common k.word key.word)
beside_before b k key f same one two after below same_is p_is s_is o_is =
    let w_after : slice_cmp nat_cmp b.word k.word ≡ Less = sym (words_cmp b k one) ∙ after in
    let w_below : slice_cmp nat_cmp b.word key.word ≡ Less = sym (words_cmp b key (one ∙ two)) ∙ below in
    let t1 : eqb f.0 key.property.0 ≡ true = eq-eqb f.0 key.property.0 (p_is ∙ two) in
    elim (cases_order same f.1.0) [
      | inl equal ↦ (
          let s : ℕ = common b.word k.word in
          let s_same : same ≡ s = equal ∙ s_is in
          let front : take s k.word ≡ take s key.word =
          sym (take_common b.word k.word) ∙ ap (λ n. take n b.word) (sym s_same ∙ same_is) ∙ take_common b.word key.word ∙ ap (λ n. take n key.word) (sym same_is ∙ s_same) in
          let within : s ≤ length key.word = omega (arith, s_same, same_is, common_within b.word key.word) in
          let a = alike s k.word key.word (common_within b.word k.word) within front in
          let l1 : ltb same f.1.0 ≡ false = le-ltb same f.1.0 (omega (arith, equal)) in
          let l2 : ltb f.1.0 same ≡ false = le-ltb f.1.0 same (omega (arith, equal)) in
          let e1 : compared f key same ≡ slice_cmp nat_cmp f.1.1.0 (drop same key.word) = rw (t1, l1, l2) refl in
          let e2 : next_same f key same ≡ same + common f.1.1.0 (drop same key.word) = rw (t1, l1, l2) refl in (
            e1 ∙ ap (λ w. slice_cmp nat_cmp w (drop same key.word)) o_is ∙ ap (λ n. slice_cmp nat_cmp (drop s k.word) (drop n key.word)) s_same ∙ sym a.0 ∙ sym (words_cmp k key two),
            λ less. e2 ∙ ap (λ w. same + common w (drop same key.word)) o_is ∙ ap (λ n. n + common (drop s k.word) (drop n key.word)) s_same ∙ sym a.1,
          ))
      | inr (inl lt) ↦ (
          let l1 : ltb same f.1.0 ≡ true = lt-ltb same f.1.0 lt in
          let m = longer b.word k.word key.word w_below (omega (arith, lt, same_is, s_is)) in
          let e1 : compared f key same ≡ Less = rw (t1, l1) refl in
          let e2 : next_same f key same ≡ same = rw (t1, l1) refl in
          (e1 ∙ sym m.0 ∙ sym (words_cmp k key two), λ less. e2 ∙ same_is ∙ sym m.1))
      | inr (inr gt) ↦ (
          let l1 : ltb same f.1.0 ≡ false = le-ltb same f.1.0 (omega (arith, gt)) in
          let l2 : ltb f.1.0 same ≡ true = lt-ltb f.1.0 same gt in
          let m = shorter b.word k.word key.word w_after (omega (arith, gt, same_is, s_is)) in
          let e1 : compared f key same ≡ Greater = rw (t1, l1, l2) refl in
          (e1 ∙ sym m ∙ sym (words_cmp k key two), λ less. absurd (let no : Greater ≡ Less = sym e1 ∙ less in cc)))
    ]

-- the comparison where the key lies is that of the keys
pub compare_right : (spot : Spot) (x : Item) (key : Key) (same : ℕ) → IsItemAt spot x → Stands spot key same
    → (compared (fields_of spot x) key same ≡ key_cmp x.0 key) × (compared (fields_of spot x) key same ≡ Less → next_same (fields_of spot x) key same ≡ leaning (Some x.0) key)
compare_right spot x key same is stands =
    let f : Fields = fields_of spot x in
    elim (bool_cases (eqb x.0.property.0 key.property.0)) [
      | inr apart ↦ (
          let e1 : compared f key same ≡ nat_cmp x.0.property.0 key.property.0 = rw apart refl in
          let e2 : next_same f key same ≡ 0 = rw apart refl in
          let e3 : leaning (Some x.0) key ≡ 0 = rw apart refl in
          (e1 ∙ sym (property_cmp x.0 key (eqb-false x.0.property.0 key.property.0 apart)), λ less. e2 ∙ sym e3))
      | inl one ↦ (
          let two : x.0.property.0 ≡ key.property.0 = eqb-true x.0.property.0 key.property.0 one in
          elim stands [
            | inl start ↦ (
                let t : eqb (spot.at % 16) 0 ≡ true = eq-eqb (spot.at % 16) 0 start.0 in
                let s0 : shared spot x.0 ≡ 0 = rw t refl in
                let w = whole_words f x.0 key refl s0 (ap (λ n. drop n x.0.word) s0) two in
                (ap (compared f key) start.1 ∙ w.0, λ less. ap (next_same f key) start.1 ∙ w.1))
            | inr (b, past) ↦ (
                let t : eqb (spot.at % 16) 0 ≡ false = ne_eqb (spot.at % 16) 0 past.inside in
                let s1 : shared spot x.0 ≡ leaning (Some b) x.0 = rw t (ap (λ o. leaning o x.0) past.before) in
                let after : key_cmp b x.0 ≡ Less = subst (λ o. IsAfter o x.0) past.before is.after in
                elim (bool_cases (eqb b.property.0 x.0.property.0)) [
                  | inr other ↦ (
                      let l1 : leaning (Some b) x.0 ≡ 0 = rw other refl in
                      let s0 : shared spot x.0 ≡ 0 = s1 ∙ l1 in
                      let bk : eqb b.property.0 key.property.0 ≡ false = subst (λ n. eqb b.property.0 n ≡ false) two other in
                      let l2 : leaning (Some b) key ≡ 0 = rw bk refl in
                      let w = whole_words f x.0 key refl s0 (ap (λ n. drop n x.0.word) s0) two in
                      (ap (compared f key) (past.told ∙ l2) ∙ w.0, λ less. ap (next_same f key) (past.told ∙ l2) ∙ w.1))
                  | inl first ↦ (
                      let b_x : b.property.0 ≡ x.0.property.0 = eqb-true b.property.0 x.0.property.0 first in
                      let l1 : leaning (Some b) x.0 ≡ common b.word x.0.word = rw first refl in
                      let bk : eqb b.property.0 key.property.0 ≡ true = eq-eqb b.property.0 key.property.0 (b_x ∙ two) in
                      let l2 : leaning (Some b) key ≡ common b.word key.word = rw bk refl in
                      let l3 : leaning (Some x.0) key ≡ common x.0.word key.word = rw one refl in
                      let r = beside_before b x.0 key f same b_x two after past.below (past.told ∙ l2) refl (s1 ∙ l1) (ap (λ n. drop n x.0.word) (s1 ∙ l1)) in
                      (r.0, λ less. r.1 less ∙ sym l3))
                ])
          ])
    ]
