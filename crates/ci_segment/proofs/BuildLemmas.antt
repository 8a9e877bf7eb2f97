-- What is built is a segment.
use Rattle.std.proofs.Common.{◌≡◌, ◌≢◌, ℕ, ◌+◌, ◌*◌, ◌%◌, ◌^◌, ◌<◌, ◌≤◌, cond, eqb, All, List, [], ◌∷◌, ◌++◌, length, map, take, drop, get_or, Option, Some, None, refl, sym, ap, subst, ◌∙◌, inl, inr, append-nil, arith}
use Rattle.std.specs.Prelude.{IfSome, IsUtf8, slice_get, ⊤}
use Rattle.std.specs.List.{AllByRecursion, range_with_len}
use Rattle.std.specs.List.Sorted.{IsStrictlySortedBy}
use Rattle.std.specs.declared.cmp.Ordering.TheVariants.{Less}
use Rattle.std.proofs.lemmas.Bool.{eqb-true, eqb-false}
use Rattle.std.proofs.lemmas.Option.{slice_get_read}
use Rattle.ci_front.specs.Front.{sized}
use Rattle.std.proofs.lemmas.List.FromFn.{map-range_with_len_more}
use Rattle.std.proofs.lemmas.List.Elements.{All-append, All-from_recursion, recursion_from_All}
use Rattle.ci_base.specs.Varint.{varint}
use Rattle.ci_keys.specs.Key.{IsIndexKey, key_cmp}
use Rattle.ci_keys.specs.declared.key.Key.{Key}
use Rattle.ci_segment.specs.Chain.{Follow}
use Rattle.ci_segment.specs.Postings.{IsSpelledPostings, postings_bytes}
use Rattle.ci_segment.specs.Segment.{AreSegmentKeys, IsAfter, IsItemAt, IsSegment, Item, Spot, after_item, blocks, first_spot, item_bytes, items_bytes, offset, offsets, segment_bytes, shared, spot_at}
use Rattle.ci_segment.specs.SegmentReading.{IsLaidOut, items_in, segment_of}
use Rattle.ci_segment.proofs.CommonLemmas.{bool_cases}
use Rattle.ci_segment.proofs.SegmentLemmas.{segment_again}
use Rattle.ci_segment.proofs.WriteLemmas.{chained_more}

-- what was written of a key
pub record IsWritten (item : Item) : Type 0 where
  pub text : IsUtf8 item.0.word
  pub postings : IsSpelledPostings item.1
  pub few : length (postings_bytes item.1) < 2 ^ 64

abbrev AllAfter : Option Key → List Item → Type 0
AllAfter None items = ⊤
AllAfter (Some b) items = AllByRecursion (λ k. key_cmp b k ≡ Less) (map (λ i. i.0) items)

is_after_first : (before : Option Key) (x : Item) (items : List Item) → AllAfter before (x ∷ items) → IsAfter before x.0
is_after_first None x items after = tt
is_after_first (Some b) x items after = after.0

items_follow : (spot : Spot) (items : List Item) → IsStrictlySortedBy key_cmp (map (λ i. i.0) items) → AllAfter spot.before items → AllByRecursion (λ i. IsIndexKey i.0) items
    → AllByRecursion (λ i. i.1 ≢ []) items → AllByRecursion IsWritten items → Follow IsItemAt after_item spot items
unfolding IsStrictlySortedBy Follow
items_follow spot [] up after keys some written = tt
items_follow spot (x ∷ items) up after keys some written = (
  record { key = keys.0; text = written.0.text; after = is_after_first spot.before x items after; some = some.0; postings = written.0.postings; few = written.0.few },
  items_follow (after_item spot x) items up.1 up.0 keys.1 some.1 written.1,
)

pub all_follow : (items : List Item) → AreSegmentKeys items → All IsWritten items → Follow IsItemAt after_item first_spot items
all_follow items are written =
    items_follow first_spot items are.ascend tt (recursion_from_All _ items are.each) (recursion_from_All _ items are.listed) (recursion_from_All _ items written)

-- the table as far as so many keys
pub table_grows : (items : List Item) (at o : ℕ) (before after : List ℕ) → before ≡ map (offset items) (range_with_len 0 (blocks at)) → o ≡ length (items_bytes (take at items))
    → after ≡ before ++ cond (eqb (at % 16) 0) (o ∷ []) [] → after ≡ map (offset items) (range_with_len 0 (blocks (at + 1)))
table_grows items at o before after so_far is more =
    elim (bool_cases (eqb (at % 16) 0)) [
      | inl first ↦ (
          let rest : at % 16 ≡ 0 = eqb-true (at % 16) 0 first in
          let n : blocks (at + 1) ≡ blocks at + 1 = omega (arith, rest) in
          let k : 16 * blocks at ≡ at = omega (arith, rest) in
          let here : o ≡ offset items (blocks at) = is ∙ ap (λ j. length (items_bytes (take j items))) (sym k) in
          let sum : 0 + blocks at ≡ blocks at = omega arith in
          more ∙ ap (λ t. before ++ cond t (o ∷ []) []) first ∙ ap (λ b. b ++ o ∷ []) so_far ∙ ap (λ p. map (offset items) (range_with_len 0 (blocks at)) ++ p ∷ []) here
          ∙ sym (map-range_with_len_more (offset items) 0 (blocks at) (blocks at) sum) ∙ ap (λ j. map (offset items) (range_with_len 0 j)) (sym n))
      | inr other ↦ (
          let isnt = eqb-false (at % 16) 0 other in
          let n : blocks (at + 1) ≡ blocks at = omega (arith, isnt) in
          more ∙ ap (λ t. before ++ cond t (o ∷ []) []) other ∙ append-nil before ∙ so_far ∙ ap (λ j. map (offset items) (range_with_len 0 j)) (sym n))
    ]

pub near_grows : (at o : ℕ) (before after : List ℕ) → All (λ p. p < 2 ^ 32) before → o < 2 ^ 32 → after ≡ before ++ cond (eqb (at % 16) 0) (o ∷ []) [] → All (λ p. p < 2 ^ 32) after
near_grows at o before after so_far small more =
    elim (bool_cases (eqb (at % 16) 0)) [
      | inl first ↦ subst (λ t. All (λ p. p < 2 ^ 32) t) (sym (more ∙ ap (λ t. before ++ cond t (o ∷ []) []) first)) (All-append (λ p. p < 2 ^ 32) before (o ∷ []) so_far (All-from_recursion (λ p. p < 2 ^ 32) (o ∷ []) (small, tt)))
      | inr other ↦ subst (λ t. All (λ p. p < 2 ^ 32) t) (sym (more ∙ ap (λ t. before ++ cond t (o ∷ []) []) other ∙ append-nil before)) so_far
    ]

-- the bytes of a segment are seen as its keys
pub seen_as : (items : List Item) (bytes : List ℕ) → IsSegment items → bytes ≡ segment_bytes items → items_in (segment_of bytes) ≡ items
seen_as items bytes is e = ap items_in (ap segment_of e ∙ segment_again items is)

pub laid_out : (items : List Item) (bytes table : List ℕ) (count body : ℕ) → IsSegment items → bytes ≡ segment_bytes items → table ≡ offsets items → count ≡ length items
    → body ≤ length bytes → drop body bytes ≡ items_bytes items → IsLaidOut (items_in (segment_of bytes)) bytes table count body
laid_out items bytes table count body is e begin size within behind =
    subst (λ (xs : List Item). IsLaidOut xs bytes table count body) (sym (seen_as items bytes is e))
    (record { is = is; spelled = e; begin = begin; size = size; within = within; behind = behind })

-- the number of a key's bytes that the word before it has
pub shared_told : (items : List Item) (i n : ℕ) (x : Item) → i < length items → x ≡ get_or items i x → IfSome (slice_get items i) (λ item. n ≡ shared (spot_at items i) item.0) → n ≡ shared (spot_at items i) x.0
shared_told items i n x within is told =
    let here : slice_get items i ≡ Some x = slice_get_read items (length items) i x refl within is in
    rw here at told

-- one key more is written
pub item_written : (items : List Item) (i n : ℕ) (x kx ky : Item) (before after : List ℕ) → i < length items → x ≡ get_or items i x → kx ≡ x → ky ≡ x → n ≡ shared (spot_at items i) x.0
    → before ≡ items_bytes (take i items) → after ≡ before ++ (varint kx.0.property.0 ++ (varint n ++ (sized (drop n kx.0.word) ++ sized (postings_bytes ky.1)))) → after ≡ items_bytes (take (i + 1) items)
item_written items i n x kx ky before after within is kx_is ky_is n_is so_far more =
    more
    ∙ (λ j. before ++ (varint (kx_is j).0.property.0 ++ (varint (n_is j) ++ (sized (drop (n_is j) (kx_is j).0.word) ++ sized (postings_bytes (ky_is j).1)))))
    ∙ ap (λ b. b ++ item_bytes (spot_at items i) x) so_far
    ∙ sym (chained_more item_bytes IsItemAt after_item first_spot items i x within is)
