-- How a segment lies in its bytes.
use Rattle.std.proofs.Common.{◌≡◌, ◌≢◌, ℕ, zero, suc, ◌+◌, ◌-◌, ◌*◌, ◌^◌, ◌<◌, ◌≤◌, false, eqb, List, [], ◌∷◌, ◌++◌, length, drop, get_or, Option, Some, None, refl, sym, ap, ◌∙◌, append_assoc, append-nil, length-append, arith, codes}
use Rattle.std.specs.Prelude.{IsSome}
use Rattle.std.specs.Int.{w32, to_be_bytes}
use Rattle.std.specs.List.{AllByRecursion, flat_map}
use Rattle.std.proofs.lemmas.Bool.{ne_eqb}
use Rattle.std.proofs.lemmas.List.{drop_at, drop-drop, length-drop}
use Rattle.ci_base.specs.Varint.{varint}
use Rattle.ci_front.specs.Front.{Front, ◌>>=◌, many_at, number_at, u32_at}
use Rattle.ci_front.proofs.FrontLemmas.{AreBytes, AreBytes-rest, bind_some, number_code, some_is, u32_code}
use Rattle.ci_segment.specs.Chain.{Follow, chain_at}
use Rattle.ci_segment.specs.Reading.{Fails}
use Rattle.ci_segment.specs.Segment.{AreSegmentKeys, IsItemAt, IsSegment, Item, after_item, blocks, first_spot, item_bytes, items_bytes, offset, offsets, segment_bytes}
use Rattle.ci_segment.specs.SegmentReading.{IsLaidOut, item_at, items_in, items_of, magic_at, segment_of, tabled}
use Rattle.ci_segment.specs.Tail.{tail_at}
use Rattle.ci_segment.specs.declared.fault.SegmentFault.{SegmentFault}
use Rattle.ci_segment.specs.declared.fault.SegmentFault.TheVariants as faults
use Rattle.ci_segment.proofs.BuildLemmas.{laid_out}
use Rattle.ci_segment.proofs.ChainLemmas.{chain_takes}
use Rattle.ci_segment.proofs.CheckLemmas.{read_offset}
use Rattle.ci_segment.proofs.ItemLemmas.{item_code}
use Rattle.ci_segment.proofs.ManyLemmas.{many_takes}
use Rattle.ci_segment.proofs.SegmentLemmas.{magic_takes, segment_again, segment_takes, tabled_is}
use Rattle.ci_segment.proofs.TailLemmas.{block_begins, offset_within}

-- the parts of a segment, one behind the other
pub packed : (items : List Item) (bytes table behind : List ℕ) (count : ℕ) → count ≡ length items → table ≡ offsets items → behind ≡ items_bytes items
    → bytes ≡ codes "CIS1" ++ (varint count ++ (flat_map (to_be_bytes w32) table ++ behind)) → bytes ≡ segment_bytes items
unfolding segment_bytes
packed items bytes table behind count size begin rest e =
    e ∙ (λ i. codes "CIS1" ++ (varint (size i) ++ (flat_map (to_be_bytes w32) (begin i) ++ rest i)))

pub built : (items : List Item) (bytes table behind : List ℕ) (count body : ℕ) → AreSegmentKeys items → length items < 2 ^ 64 → Follow IsItemAt after_item first_spot items → AllByRecursion (λ o. o < 2 ^ 32) (offsets items)
    → count ≡ length items → table ≡ offsets items → behind ≡ items_bytes items → bytes ≡ codes "CIS1" ++ (varint count ++ (flat_map (to_be_bytes w32) table ++ behind))
    → body ≤ length bytes → drop body bytes ≡ behind → IsLaidOut (items_in (segment_of bytes)) bytes table count body × (items_in (segment_of bytes) ≡ items)
built items bytes table behind count body are few each near size begin rest e within back =
    let is : IsSegment items = record { some = are.some; few = few; each = each; near = near } in
    let spelled = packed items bytes table behind count size begin rest e in
    (laid_out items bytes table count body is spelled begin size within (back ∙ rest), ap items_in (ap segment_of spelled ∙ segment_again items is))

some_of : {A : Type 0} (r : Option A) → IsSome r → (x : A) × (r ≡ Some x)
some_of (Some x) some = (x, refl)
some_of None some = absurd cc

-- what was read is laid out
pub layout_read : (bytes rest more table body : List ℕ) (count : ℕ) → AreBytes bytes → magic_at bytes ≡ Some rest → number_at rest ≡ Some (count, more) → count ≢ 0 → many_at u32_at (blocks count) more ≡ Some (table, body)
    → IsSome (items_of count table body) → IsLaidOut (items_in (segment_of bytes)) bytes table count (length bytes - length body)
unfolding segment_of items_of
layout_read bytes rest more table body count fits magic number some many is_some =
    let isnt : eqb count 0 ≡ false = ne_eqb count 0 some in
    let found = some_of (items_of count table body) is_some in
    let items = found.0 in
    let whole : segment_of bytes ≡ Some items = rw (magic, number, isnt, many) found.1 in
    let took = segment_takes bytes items fits whole in
    let front = magic_takes bytes rest magic in
    let fits_rest = AreBytes-rest (codes "CIS1") rest bytes front fits in
    let n = number_code.takes rest count more fits_rest number in
    let fits_more = AreBytes-rest (varint count) more rest n.1 fits_rest in
    let t = many_takes (to_be_bytes w32) (λ o. o < 2 ^ 32) u32_at u32_code (blocks count) more table body fits_more many in
    let fits_body = AreBytes-rest (flat_map (to_be_bytes w32) table) body more t.2 fits_more in
    let step = bind_some (chain_at item_at after_item first_spot count body) (tabled table) items found.1 in
    let is = tabled_is table step.0 items step.2 in
    let keys : chain_at item_at after_item first_spot count body ≡ Some (items, []) = let a = is.0 in let b = is.1 in step.1 ∙ (λ i. Some (a i, b i)) in
    let c = chain_takes item_bytes IsItemAt item_at after_item item_code first_spot count body items [] fits_body keys in
    let behind : body ≡ items_bytes items = c.2 ∙ append-nil (items_bytes items) in
    let prefix : List ℕ = codes "CIS1" ++ (varint count ++ flat_map (to_be_bytes w32) table) in
    let joined : bytes ≡ prefix ++ body =
    front ∙ ap (λ r. codes "CIS1" ++ r) (n.1 ∙ ap (λ r. varint count ++ r) t.2 ∙ sym (append_assoc (varint count) (flat_map (to_be_bytes w32) table) body))
    ∙ sym (append_assoc (codes "CIS1") (varint count ++ flat_map (to_be_bytes w32) table) body) in
    let size : length bytes ≡ length prefix + length body = ap length joined ∙ length-append prefix body in
    let k : length prefix ≡ length bytes - length body = omega (arith, size) in
    let back : drop (length bytes - length body) bytes ≡ items_bytes items = ap (λ b. drop (length bytes - length body) b) joined ∙ drop_at prefix body (length bytes - length body) k ∙ behind in
    laid_out items bytes table count (length bytes - length body) took.0 (sym took.1) is.2 (sym c.1) (let e : length bytes - length body ≤ length bytes = omega arith in e) back

pub layout_empty : (bytes rest more : List ℕ) (count : ℕ) → magic_at bytes ≡ Some rest → number_at rest ≡ Some (count, more) → count ≡ 0 → segment_of bytes ≡ None
unfolding segment_of
layout_empty bytes rest more count magic number none = rw (magic, number, none) refl

many_long : {X : Type 0} (at : Front X) (count : ℕ) (bytes : List ℕ) (xs : List X) (rest : List ℕ) → many_at at count bytes ≡ Some (xs, rest) → length xs ≡ count
unfolding many_at
many_long at zero bytes xs rest e = ap length (sym (ap (λ v. v.0) (some_is ([], bytes) (xs, rest) e)))
many_long at (suc count) bytes xs rest e =
    let first = bind_some (at bytes) (λ first. many_at at count first.1 >>= λ others. Some (first.0 ∷ others.0, others.1)) (xs, rest) e in
    let second = bind_some (many_at at count first.0.1) (λ others. Some (first.0.0 ∷ others.0, others.1)) (xs, rest) first.2 in
    let long : length second.0.0 ≡ count = many_long at count first.0.1 second.0.0 second.0.1 second.1 in
    ap length (sym (ap (λ v. v.0) (some_is (first.0.0 ∷ second.0.0, second.0.1) (xs, rest) second.2))) ∙ (let e : suc (length second.0.0) ≡ suc count = omega (arith, long) in e)

pub table_long : (count n : ℕ) (bytes table rest : List ℕ) → n ≡ blocks count → many_at u32_at n bytes ≡ Some (table, rest) → length table ≡ blocks count
table_long count n bytes table rest is e = many_long u32_at n bytes table rest e ∙ is

-- the keys stand behind the table
pub layout_short : (bytes rest more table body : List ℕ) (count n : ℕ) → AreBytes bytes → magic_at bytes ≡ Some rest → number_at rest ≡ Some (count, more) → many_at u32_at n more ≡ Some (table, body) → length body ≤ length bytes
layout_short bytes rest more table body count n fits magic number many =
    let front = magic_takes bytes rest magic in
    let fits_rest = AreBytes-rest (codes "CIS1") rest bytes front fits in
    let read = number_code.takes rest count more fits_rest number in
    let fits_more = AreBytes-rest (varint count) more rest read.1 fits_rest in
    let t = many_takes (to_be_bytes w32) (λ o. o < 2 ^ 32) u32_at u32_code n more table body fits_more many in
    omega (arith, ap length front, length-append (codes "CIS1") rest, ap length read.1, length-append (varint count) more, ap length t.2, length-append (flat_map (to_be_bytes w32) table) body)

-- no segment, where its keys aren't read
pub layout_ends : (e : SegmentFault) (bytes rest more table body : List ℕ) (count : ℕ) → magic_at bytes ≡ Some rest → number_at rest ≡ Some (count, more) → count ≢ 0 → many_at u32_at (blocks count) more ≡ Some (table, body)
    → Fails e (items_of count table body) → e ≡ faults.BadSegment → segment_of bytes ≡ None
unfolding segment_of
layout_ends faults.BadSegment bytes rest more table body count magic number some many none is =
    let isnt : eqb count 0 ≡ false = ne_eqb count 0 some in rw (magic, number, isnt, many, none) refl
layout_ends faults.OutOfMemory bytes rest more table body count magic number some many none is = absurd cc

-- bytes that aren't read are no segment
pub not_segment : (bytes : List ℕ) → segment_of bytes ≡ None → (items : List Item) → IsSegment items → segment_bytes items ≡ bytes → ⊥
not_segment bytes none items is e = absurd (let some = sym (segment_again items is) ∙ ap segment_of e ∙ none in cc)

-- where a block begins
pub block_place : (items : List Item) (bytes table : List ℕ) (count body block : ℕ) → IsLaidOut items bytes table count body → block < blocks (length items) → body + get_or table block 0 ≤ length bytes
block_place items bytes table count body block laid within =
    let o : get_or table block 0 ≡ offset items block = ap (λ t. get_or t block 0) laid.begin ∙ read_offset items block within in
    let size : length (drop body bytes) ≡ length (items_bytes items) = ap length laid.behind in
    omega (arith, o, size, length-drop body bytes, laid.within, offset_within items block)

pub block_tail : (items : List Item) (bytes table : List ℕ) (count body block : ℕ) → IsLaidOut items bytes table count body → block < blocks (length items) → drop (body + get_or table block 0) bytes ≡ tail_at items (16 * block)
block_tail items bytes table count body block laid within =
    let o : get_or table block 0 ≡ offset items block = ap (λ t. get_or t block 0) laid.begin ∙ read_offset items block within in
    sym (drop-drop (get_or table block 0) body bytes) ∙ ap (drop (get_or table block 0)) laid.behind ∙ ap (λ n. drop n (items_bytes items)) o ∙ block_begins items block
