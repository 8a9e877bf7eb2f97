-- The bytes of a segment from a key on.
use Rattle.std.proofs.Common.{◌≡◌, ℕ, suc, ◌+◌, ◌*◌, ◌<◌, ◌≤◌, List, ◌∷◌, ◌++◌, length, take, drop, get_or, Some, refl, sym, ap, subst, ◌∙◌, length-append, arith, drop-cons}
use Rattle.std.proofs.lemmas.List.{drop_at, take-append-drop}
use Rattle.ci_segment.specs.Chain.{Follow, chained}
use Rattle.ci_segment.specs.Segment.{IsItemAt, IsSegment, Item, after_item, first_spot, item_bytes, items_bytes, offset, spot_at}
use Rattle.ci_segment.specs.SegmentReading.{fields_at}
use Rattle.ci_segment.specs.Tail.{tail_at}
use Rattle.ci_segment.proofs.ItemLemmas.{fields_again, fields_of}
use Rattle.ci_segment.proofs.WriteLemmas.{Follow_back, chained_append}

-- the keys are those before a place and those from there on
pub split : (items : List Item) (i : ℕ) → items_bytes items ≡ items_bytes (take i items) ++ tail_at items i
unfolding tail_at
split items i = ap items_bytes (sym (take-append-drop i items)) ∙ chained_append item_bytes IsItemAt after_item first_spot (take i items) (drop i items)

-- a block begins where the table says
pub block_begins : (items : List Item) (b : ℕ) → drop (offset items b) (items_bytes items) ≡ tail_at items (16 * b)
block_begins items b =
    ap (λ bs. drop (offset items b) bs) (split items (16 * b)) ∙ drop_at (items_bytes (take (16 * b) items)) (tail_at items (16 * b)) (offset items b) refl

pub offset_within : (items : List Item) (b : ℕ) → offset items b ≤ length (items_bytes items)
offset_within items b = omega (arith, ap length (split items (16 * b)), length-append (items_bytes (take (16 * b) items)) (tail_at items (16 * b)))

-- the key at a place, and the rest
from_here : (items : List Item) (i : ℕ) (x : Item) → i < length items → x ≡ get_or items i x → drop i items ≡ x ∷ drop (i + 1) items
from_here items i x within is = drop-cons items i x within ∙ ap (λ y. y ∷ drop (suc i) items) (sym is) ∙ ap (λ n. x ∷ drop n items) (let e : suc i ≡ i + 1 = omega arith in e)

pub item_here : (items : List Item) (i : ℕ) (x : Item) → IsSegment items → i < length items → x ≡ get_or items i x → IsItemAt (spot_at items i) x
unfolding Follow
item_here items i x is within at =
    let all : Follow IsItemAt after_item first_spot (take i items ++ drop i items) = subst (λ xs. Follow IsItemAt after_item first_spot xs) (sym (take-append-drop i items)) is.each in
    let behind = Follow_back item_bytes IsItemAt after_item first_spot (take i items) (drop i items) all in
    (subst (λ xs. Follow IsItemAt after_item (spot_at items i) xs) (from_here items i x within at) behind).0

-- one key more of a tail: its spot leads on to the next one
pub tail_on : (items : List Item) (i : ℕ) (x : Item) → i < length items → x ≡ get_or items i x → spot_at items (i + 1) ≡ after_item (spot_at items i) x → tail_at items i ≡ item_bytes (spot_at items i) x ++ tail_at items (i + 1)
unfolding tail_at chained
tail_on items i x within at next =
    ap (chained item_bytes after_item (spot_at items i)) (from_here items i x within at)
    ∙ ap (λ s. item_bytes (spot_at items i) x ++ chained item_bytes after_item s (drop (i + 1) items)) (sym next)

-- the fields of the key at a place
pub tail_fields : (items : List Item) (i : ℕ) (x : Item) → IsSegment items → i < length items → x ≡ get_or items i x → spot_at items (i + 1) ≡ after_item (spot_at items i) x
    → fields_at (tail_at items i) ≡ Some (fields_of (spot_at items i) x, tail_at items (i + 1))
tail_fields items i x is within at next =
    ap fields_at (tail_on items i x within at next) ∙ fields_again (spot_at items i) x (tail_at items (i + 1)) (item_here items i x is within at)
