-- A walk over the keys of a block, up to the place of a key.
use Rattle.std.proofs.Common.{◌≡◌, ℕ, ◌+◌, ◌-◌, ◌%◌, ◌<◌, ◌≤◌, List, length, Some, refl, sym, ap, subst, ◌∙◌, inl, inr, arith}
use Rattle.std.specs.Prelude.{slice_get}
use Rattle.std.specs.declared.cmp.Ordering.TheVariants.{Less}
use Rattle.std.proofs.lemmas.Bool.{cases_lt}
use Rattle.ci_front.proofs.FrontLemmas.{some_is}
use Rattle.ci_keys.specs.Key.{key_cmp}
use Rattle.ci_keys.specs.declared.key.Key.{Key}
use Rattle.ci_segment.specs.Finding.{compared, next_same}
use Rattle.ci_segment.specs.Segment.{IsSegment, Item, Spot, leaning, spot_at}
use Rattle.ci_segment.specs.SegmentReading.{Fields, fields_at}
use Rattle.ci_segment.specs.Tail.{tail_at}
use Rattle.ci_segment.proofs.CommonLemmas.{leaning_within}
use Rattle.ci_segment.proofs.CompareLemmas.{Stands, compare_right}
use Rattle.ci_segment.proofs.ItemLemmas.{fields_of}
use Rattle.ci_segment.proofs.PlaceLemmas.{fields_here, there_is}
use Rattle.ci_segment.proofs.SpotLemmas.{spot_after, spot_counts}
use Rattle.ci_segment.proofs.TailLemmas.{item_here}

-- the keys of the block before a place are below the key, of which the last of them has so many bytes
pub record IsPastTo (items : List Item) (key : Key) (start at same : ℕ) : Type 0 where
  pub first : at ≡ start → same ≡ 0
  pub below : (before : ℕ) → before + 1 ≡ at → start ≤ before → (b : Item) → slice_get items before ≡ Some b → (key_cmp b.0 key ≡ Less) × (same ≡ leaning (Some b.0) key)
  pub short : same ≤ length key.word

pub past_first : (items : List Item) (key : Key) (start : ℕ) → IsPastTo items key start start 0
past_first items key start = record {
  first = λ e. refl;
  below = λ before one above b there. absurd (omega (arith, one, above));
  short = omega arith;
}

stands_at : (items : List Item) (key : Key) (start at same : ℕ) → start % 16 ≡ 0 → start ≤ at → at < start + 16 → at < length items → IsPastTo items key start at same → Stands (spot_at items at) key same
stands_at items key start at same first above near within past =
    let counts : (spot_at items at).at ≡ at = spot_counts items at (omega (arith, within)) in
    elim (cases_lt start at) [
      | inr none ↦ (
          let here : at ≡ start = omega (arith, none, above) in
          inl (ap (λ n. n % 16) (counts ∙ here) ∙ first, past.first here))
      | inl later ↦ (
          let one : at - 1 + 1 ≡ at = omega (arith, later) in
          let (b, b_is, b_there) = there_is items (at - 1) (omega (arith, later, within)) in
          let below = past.below (at - 1) one (omega (arith, later)) b b_there in
          let spot : (spot_at items at).before ≡ Some b.0 = ap (λ n. (spot_at items n).before) (sym one) ∙ ap (λ (s : Spot). s.before) (spot_after items (at - 1) b (omega (arith, later, within)) b_is) in
          inr (
            b.0,
            record {
              inside = λ e. (let rest : at % 16 ≡ 0 = ap (λ n. n % 16) (sym counts) ∙ e in absurd (omega (arith, rest, first, later, near)));
              before = spot;
              below = below.0;
              told = below.1;
            },
          ))
    ]

-- a key is compared with the key at the place
pub compared_here : (items : List Item) (key : Key) (start at same : ℕ) (rest : List ℕ) (f : Fields) (after : List ℕ) → IsSegment items → start % 16 ≡ 0 → start ≤ at → at < start + 16 → at < length items
    → rest ≡ tail_at items at → fields_at rest ≡ Some (f, after) → IsPastTo items key start at same
    → (x : Item) × (slice_get items at ≡ Some x) × (compared f key same ≡ key_cmp x.0 key) × (compared f key same ≡ Less → next_same f key same ≡ leaning (Some x.0) key)
compared_here items key start at same rest f after is first above near within here read past =
    let (x, x_is, there) = there_is items at within in
    let e = some_is (f, after) (fields_of (spot_at items at) x, tail_at items (at + 1)) (sym read ∙ fields_here items at rest x is within x_is here) in
    let f_is : f ≡ fields_of (spot_at items at) x = ap (λ v. v.0) e in
    let right = compare_right (spot_at items at) x key same (item_here items at x is within x_is) (stands_at items key start at same first above near within past) in
    (x, there, ap (λ g. compared g key same) f_is ∙ right.0, λ less. ap (λ g. next_same g key same) f_is ∙ right.1 (ap (λ g. compared g key same) (sym f_is) ∙ less))

-- the key is above the key at the place
pub past_on : (items : List Item) (key : Key) (start at more : ℕ) (x : Item) → start ≤ at → slice_get items at ≡ Some x → key_cmp x.0 key ≡ Less → more ≡ leaning (Some x.0) key → IsPastTo items key start (at + 1) more
past_on items key start at more x above there less is = record {
  first = λ e. absurd (omega (arith, e, above));
  below = λ before one from b b_there. (
      let same : before ≡ at = omega (arith, one) in
      let x_b : x ≡ b = some_is x b (sym there ∙ ap (slice_get items) (sym same) ∙ b_there) in
      (subst (λ (y : Item). key_cmp y.0 key ≡ Less) x_b less, subst (λ (y : Item). more ≡ leaning (Some y.0) key) x_b is));
  short = omega (arith, is, leaning_within (Some x.0) key);
}
