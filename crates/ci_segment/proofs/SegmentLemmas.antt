-- Segments are read exactly where they are spelled.
use Rattle.std.proofs.Common.{◌≡◌, ℕ, ◌^◌, ◌<◌, ◌&&◌, Bool, true, false, cond, eqb, List, [], ◌∷◌, ◌++◌, length, Option, Some, None, refl, sym, ap, subst, ◌∙◌, append-nil, arith, codes, bytes_eq}
use Rattle.std.specs.Int.{w32, to_be_bytes}
use Rattle.std.specs.List.{AllByRecursion, flat_map}
use Rattle.std.proofs.lemmas.Bool.{and_parts, eqb-true, eqb-false, ne_eqb}
use Rattle.std.proofs.lemmas.List.{nil_from_length}
use Rattle.std.proofs.lemmas.List.FromFn.{length-map-range_with_len}
use Rattle.std.proofs.lemmas.Slice.Eq.{bytes_eq-Decides}
use Rattle.ci_base.specs.Varint.{varint}
use Rattle.ci_front.specs.Front.{◌>>=◌, bytes_at, many_at, number_at, u32_at}
use Rattle.ci_front.proofs.FrontLemmas.{AreBytes, AreBytes-rest, bind_some, bytes_again, bytes_takes, guard_holds, number_code, some_is, u32_code}
use Rattle.ci_segment.specs.Chain.{chain_at}
use Rattle.ci_segment.specs.Segment.{IsItemAt, IsSegment, Item, after_item, blocks, first_spot, item_bytes, items_bytes, offset, offsets, segment_bytes}
use Rattle.ci_segment.specs.SegmentReading.{item_at, items_of, magic_at, segment_of, tabled}
use Rattle.ci_segment.proofs.ChainLemmas.{chain_again, chain_takes}
use Rattle.ci_segment.proofs.ItemLemmas.{item_code}
use Rattle.ci_segment.proofs.ManyLemmas.{many_again, many_takes}

tag_is : (tag : List ℕ) → bytes_eq tag (codes "CIS1") ≡ true → tag ≡ codes "CIS1"
tag_is tag e = (bytes_eq-Decides tag (codes "CIS1")).0 e

pub magic_takes : (bytes rest : List ℕ) → magic_at bytes ≡ Some rest → bytes ≡ codes "CIS1" ++ rest
magic_takes bytes rest e =
    let step = bind_some (bytes_at 4 bytes) (λ tag. cond (bytes_eq tag.0 (codes "CIS1")) (Some tag.1) None) rest e in
    let last = guard_holds (bytes_eq step.0.0 (codes "CIS1")) step.0.1 rest step.2 in
    let front = bytes_takes 4 bytes step.0.0 step.0.1 step.1 in
    let same : step.0.0 ≡ codes "CIS1" = tag_is step.0.0 last.0 in
    front.1 ∙ ap (λ f. f ++ step.0.1) same ∙ ap (λ r. codes "CIS1" ++ r) last.1

magic_again : (rest : List ℕ) → magic_at (codes "CIS1" ++ rest) ≡ Some rest
magic_again rest = rw (bytes_again (codes "CIS1") rest 4 refl) refl

pub count_offsets : (items : List Item) → length (offsets items) ≡ blocks (length items)
count_offsets items = length-map-range_with_len (offset items) 0 (blocks (length items))

-- what the keys of a table are
pub tabled_is : (table : List ℕ) (read : List Item × List ℕ) (items : List Item) → tabled table read ≡ Some items → (read.0 ≡ items) × (read.1 ≡ []) × (table ≡ offsets items)
tabled_is table read items e =
    let last = guard_holds (eqb (length read.1) 0 && bytes_eq table (offsets read.0)) read.0 items e in
    let tests = and_parts (eqb (length read.1) 0) (bytes_eq table (offsets read.0)) last.0 in
    let same : table ≡ offsets read.0 = (bytes_eq-Decides table (offsets read.0)).0 tests.1 in
    (last.1, nil_from_length read.1 (eqb-true _ 0 tests.0), same ∙ ap offsets last.1)

guard_step : {A : Type 0} (b : Bool) (r : Option A) (y : A) → cond b None r ≡ Some y → (b ≡ false) × (r ≡ Some y)
guard_step true r y e = absurd cc
guard_step false r y e = (refl, e)

no_items : (items : List Item) → items ≡ [] → length items ≡ 0
no_items items none = ap length none

no_length : (items : List Item) → length items ≡ 0 → items ≡ []
no_length [] none = refl
no_length (x ∷ xs) none = absurd (omega arith)

-- what is read is spelled, all of it
pub segment_takes : (bytes : List ℕ) (items : List Item) → AreBytes bytes → segment_of bytes ≡ Some items → IsSegment items × (segment_bytes items ≡ bytes)
unfolding segment_of segment_bytes items_of
segment_takes bytes items fits e =
    let first = bind_some (magic_at bytes) (λ rest. number_at rest >>= λ count. cond (eqb count.0 0) None (many_at u32_at (blocks count.0) count.1 >>= λ table. items_of count.0 table.0 table.1)) items e in
    let front = magic_takes bytes first.0 first.1 in
    let fits_first = AreBytes-rest (codes "CIS1") first.0 bytes front fits in
    let second = bind_some (number_at first.0) (λ count. cond (eqb count.0 0) None (many_at u32_at (blocks count.0) count.1 >>= λ table. items_of count.0 table.0 table.1)) items first.2 in
    let count = second.0.0 in
    let n = number_code.takes first.0 count second.0.1 fits_first second.1 in
    let fits_second = AreBytes-rest (varint count) second.0.1 first.0 n.1 fits_first in
    let some = guard_step (eqb count 0) (many_at u32_at (blocks count) second.0.1 >>= λ table. items_of count table.0 table.1) items second.2 in
    let third = bind_some (many_at u32_at (blocks count) second.0.1) (λ table. items_of count table.0 table.1) items some.1 in
    let table = third.0.0 in
    let t = many_takes (to_be_bytes w32) (λ o. o < 2 ^ 32) u32_at u32_code (blocks count) second.0.1 table third.0.1 fits_second third.1 in
    let fits_third = AreBytes-rest (flat_map (to_be_bytes w32) table) third.0.1 second.0.1 t.2 fits_second in
    let fourth = bind_some (chain_at item_at after_item first_spot count third.0.1) (tabled table) items third.2 in
    let is = tabled_is table fourth.0 items fourth.2 in
    let keys : chain_at item_at after_item first_spot count third.0.1 ≡ Some (items, []) = let a = is.0 in let b = is.1 in fourth.1 ∙ (λ i. Some (a i, b i)) in
    let c = chain_takes item_bytes IsItemAt item_at after_item item_code first_spot count third.0.1 items [] fits_third keys in
    let size : length items ≡ count = c.1 in
    let last : third.0.1 ≡ items_bytes items = c.2 ∙ append-nil (items_bytes items) in
    let whole : bytes ≡ codes "CIS1" ++ (varint (length items) ++ (flat_map (to_be_bytes w32) (offsets items) ++ items_bytes items)) =
    front ∙ ap (λ r. codes "CIS1" ++ r) (n.1 ∙ ap (λ k. varint k ++ second.0.1) (sym size) ∙ ap (λ r. varint (length items) ++ r)
    (t.2 ∙ ap (λ o. flat_map (to_be_bytes w32) o ++ third.0.1) is.2 ∙ ap (λ r. flat_map (to_be_bytes w32) (offsets items) ++ r) last)) in (
      record {
        some = λ none. eqb-false count 0 some.0 (sym size ∙ no_items items none);
        few = omega (arith, n.0, size);
        each = c.0;
        near = subst (λ os. AllByRecursion (λ o. o < 2 ^ 32) os) is.2 t.0;
      },
      sym whole,
    )

-- what is spelled is read
pub segment_again : (items : List Item) → IsSegment items → segment_of (segment_bytes items) ≡ Some items
unfolding segment_of segment_bytes items_of
segment_again items is =
    let some : eqb (length items) 0 ≡ false = ne_eqb (length items) 0 (λ none. is.some (no_length items none)) in
    let table : many_at u32_at (blocks (length items)) (flat_map (to_be_bytes w32) (offsets items) ++ items_bytes items) ≡ Some (offsets items, items_bytes items) =
    ap (λ k. many_at u32_at k (flat_map (to_be_bytes w32) (offsets items) ++ items_bytes items)) (sym (count_offsets items))
    ∙ many_again (to_be_bytes w32) (λ o. o < 2 ^ 32) u32_at u32_code (offsets items) (items_bytes items) is.near in
    let keys : chain_at item_at after_item first_spot (length items) (items_bytes items) ≡ Some (items, []) =
    ap (chain_at item_at after_item first_spot (length items)) (sym (append-nil (items_bytes items)))
    ∙ chain_again item_bytes IsItemAt item_at after_item item_code first_spot items [] is.each in
    let same : bytes_eq (offsets items) (offsets items) ≡ true = (bytes_eq-Decides (offsets items) (offsets items)).1 refl in
    rw (
      magic_again (varint (length items) ++ (flat_map (to_be_bytes w32) (offsets items) ++ items_bytes items)),
      number_code.again (length items) (flat_map (to_be_bytes w32) (offsets items) ++ items_bytes items) is.few,
      some,
      table,
      keys,
      same,
    ) refl

-- a segment has one spelling
pub one_segment : (a b : List Item) → IsSegment a → IsSegment b → segment_bytes a ≡ segment_bytes b → a ≡ b
one_segment a b p q e = some_is a b (sym (segment_again a p) ∙ ap segment_of e ∙ segment_again b q)
