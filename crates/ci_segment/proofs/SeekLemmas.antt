-- The place of a key, from the block in which it is looked for.
use Rattle.std.proofs.Common.{◌≡◌, ◌≢◌, ℕ, zero, suc, ◌+◌, ◌-◌, ◌*◌, ◌/◌, ◌%◌, ◌^◌, ◌<◌, ◌≤◌, min, Bool, true, false, cond, List, [], ◌∷◌, length, get_or, Some, refl, sym, ap, subst, ◌∙◌, inl, inr, arith}
use Rattle.std.specs.Prelude.{IsSome, slice_get}
use Rattle.std.specs.declared.cmp.Ordering.{Ordering}
use Rattle.std.specs.declared.cmp.Ordering.TheVariants.{Less, Equal, Greater}
use Rattle.std.specs.Ordering.{is_gt}
use Rattle.std.proofs.lemmas.Bool.{cases_lt}
use Rattle.std.proofs.lemmas.Option.{get_or_from_slice_get}
use Rattle.ci_front.proofs.FrontLemmas.{some_is}
use Rattle.ci_keys.proofs.Keys.{key_cmp-IsAntisymmetric}
use Rattle.ci_keys.specs.Key.{key_cmp}
use Rattle.ci_keys.specs.declared.key.Key.{Key}
use Rattle.ci_segment.specs.Finding.{IsBlockOf, IsFoundAt, compared}
use Rattle.ci_segment.specs.Segment.{IsSegment, Item, blocks}
use Rattle.ci_segment.specs.SegmentReading.{Fields, fields_at}
use Rattle.ci_segment.specs.Tail.{tail_at}
use Rattle.ci_segment.proofs.FindLemmas.{IsHalved, found_at, halved, halved_first, less_at, nowhere_at}
use Rattle.ci_segment.proofs.OrderLemmas.{are_keys}
use Rattle.ci_segment.proofs.PlaceLemmas.{fields_some}
use Rattle.ci_segment.proofs.WalkLemmas.{IsPastTo, compared_here, past_first}

pub none_at : {X : Type 0} (xs : List X) (i : ℕ) (x : X) → slice_get xs i ≡ Some x → i < length xs
none_at [] i x e = absurd cc
none_at (y ∷ ys) zero x e = omega arith
none_at (y ∷ ys) (suc i) x e = omega (arith, none_at ys i x e)

-- the first key of a block is compared
pub begins : (items : List Item) (key : Key) (block : ℕ) (rest : List ℕ) (f : Fields) (after : List ℕ) (order : Ordering) → IsSegment items → block < blocks (length items) → rest ≡ tail_at items (16 * block) → fields_at rest ≡ Some (f, after)
    → order ≡ compared f key 0 → (item : Item) → slice_get items (16 * block) ≡ Some item → is_gt order ≡ is_gt (key_cmp item.0 key)
begins items key block rest f after order is within here read order_is item there =
    let place : 16 * block < length items = omega (arith, within) in
    let first : 16 * block % 16 ≡ 0 = omega arith in
    let c = compared_here items key (16 * block) (16 * block) 0 rest f after is first (let e : 16 * block ≤ 16 * block = omega arith in e) (let e : 16 * block < 16 * block + 16 = omega arith in e) place here read (past_first items key (16 * block)) in
    let same : c.0 ≡ item = some_is c.0 item (sym c.1 ∙ there) in
    ap is_gt (order_is ∙ c.2) ∙ ap (λ (x : Item). is_gt (key_cmp x.0 key)) same

pub block_some : (items : List Item) (block : ℕ) (rest : List ℕ) → IsSegment items → block < blocks (length items) → rest ≡ tail_at items (16 * block) → IsSome (fields_at rest)
block_some items block rest is within here = fields_some items (16 * block) rest is (let e : 16 * block < length items = omega (arith, within) in e) here

-- before the first block stands no key that isn't above
pub before_all : (items : List Item) (key : Key) → IsSegment items → IsBlockOf items key 0 → IsFoundAt items key 0 false
before_all items key is block =
    nowhere_at items (are_keys items is).ascend key 0 (omega arith) (λ before one b there. absurd (omega (arith, one)))
    (λ x there. (let some : 0 < length items = none_at items 0 x there in block.above (let e : 0 < blocks (length items) = omega (arith, some) in e) x (let z : 16 * 0 ≡ 0 = omega arith in ap (slice_get items) z ∙ there)))

-- the walk came to the key
pub walk_found : (items : List Item) (key : Key) (start at same : ℕ) (x : Item) → IsSegment items → start ≤ at → IsPastTo items key start at same → slice_get items at ≡ Some x → key_cmp x.0 key ≡ Equal → IsFoundAt items key at true
walk_found items key start at same x is above past there equal =
    let up = (are_keys items is).ascend in
    let within : at < length items = none_at items at x there in
    let x_key : x.0 ≡ key = key_cmp-IsAntisymmetric x.0 key equal in
    found_at items up key at x there within equal (λ before one b b_there. elim (cases_lt before start) [
      | inl low ↦ (
          let earlier : before < at = omega (arith, one) in
          let less : key_cmp (get_or items before x).0 (get_or items at x).0 ≡ Less = less_at items up key before at x earlier within in
          let b_is : get_or items before x ≡ b = get_or_from_slice_get items before b x b_there in
          let x_is : get_or items at x ≡ x = get_or_from_slice_get items at x x there in
          subst (λ (k : Key). key_cmp b.0 k ≡ Less) (ap (λ (y : Item). y.0) x_is ∙ x_key) (subst (λ (y : Item). key_cmp y.0 (get_or items at x).0 ≡ Less) b_is less))
      | inr high ↦ (past.below before one high b b_there).0
    ])

-- or passed its place
pub walk_passed : (items : List Item) (key : Key) (start at same : ℕ) → IsSegment items → start < at → at ≤ length items → IsPastTo items key start at same → ((x : Item) → slice_get items at ≡ Some x → key_cmp x.0 key ≡ Greater) → IsFoundAt items key at false
walk_passed items key start at same is above within past here =
    nowhere_at items (are_keys items is).ascend key at within (λ before one b b_there. (past.below before one (let e : start ≤ before = omega (arith, one, above) in e) b b_there).0) here

-- the first key of the block isn't above
pub walk_began : (items : List Item) (key : Key) (block at : ℕ) (x : Item) → IsBlockOf items key (block + 1) → block * 16 ≤ at → slice_get items at ≡ Some x → key_cmp x.0 key ≡ Greater → block * 16 < at
walk_began items key block at x is above there greater =
    elim (cases_lt (block * 16) at) [
      | inl later ↦ later
      | inr none ↦ (
          let here : at ≡ 16 * block = omega (arith, none, above) in
          absurd (is.below block refl x (ap (slice_get items) (sym here) ∙ there) greater))
    ]

-- the block has no key from the place on
pub walk_over : (items : List Item) (key : Key) (block at : ℕ) → IsBlockOf items key (block + 1) → at ≡ block * 16 + min (length items - block * 16) 16 → (x : Item) → slice_get items at ≡ Some x → key_cmp x.0 key ≡ Greater
walk_over items key block at is end x there =
    let within : at < length items = none_at items at x there in
    let next : at ≡ 16 * (block + 1) = omega (arith, end, within) in
    let more : block + 1 < blocks (length items) = omega (arith, next, within) in
    is.above more x (ap (slice_get items) (sym next) ∙ there)

-- ---- the block of a key

-- a search among blocks that began with so many comparisons
pub record IsNarrowed (items : List Item) (key : Key) (first now low high : ℕ) : Type 0 where
  pub ordered : low ≤ high
  pub within : high ≤ blocks (length items)
  pub below : (before : ℕ) → before + 1 ≡ low → (item : Item) → slice_get items (16 * before) ≡ Some item → key_cmp item.0 key ≢ Greater
  pub above : high < blocks (length items) → (item : Item) → slice_get items (16 * high) ≡ Some item → key_cmp item.0 key ≡ Greater
  pub cost : IsHalved (blocks (length items)) first now (high - low)

pub narrow_first : (items : List Item) (key : Key) (first high : ℕ) → high ≡ blocks (length items) → IsNarrowed items key first first 0 high
narrow_first items key first high is = record {
  ordered = omega arith;
  within = omega (arith, is);
  below = λ before one item there. absurd (omega (arith, one));
  above = λ more item there. absurd (omega (arith, more, is));
  cost = halved_first (blocks (length items)) first (high - 0) (let e : high - 0 ≤ blocks (length items) = omega (arith, is) in e);
}

gt_is : (o : Ordering) → true ≡ is_gt o → o ≡ Greater
gt_is Less e = absurd cc
gt_is Equal e = absurd cc
gt_is Greater e = refl

not_gt : (o : Ordering) → false ≡ is_gt o → o ≢ Greater
not_gt o e is = absurd (let no : false ≡ true = e ∙ ap is_gt is in cc)

pub narrow_on : (items : List Item) (key : Key) (first now then low high middle low_then high_then : ℕ) (above : Bool) → IsNarrowed items key first now low high → low < high → middle ≡ low + (high - low) / 2
    → ((item : Item) → slice_get items (16 * middle) ≡ Some item → above ≡ is_gt (key_cmp item.0 key)) → then ≡ now + 1 → low_then ≡ cond above low (middle + 1) → high_then ≡ cond above middle high
    → IsNarrowed items key first then low_then high_then
narrow_on items key first now then low high middle low_then high_then true so_far some mid told spent low_is high_is = record {
  ordered = omega (arith, mid, low_is, high_is);
  within = omega (arith, mid, high_is, so_far.within, some);
  below = λ before one. so_far.below before (one ∙ low_is);
  above = λ more item there. gt_is (key_cmp item.0 key) (told item (ap (λ n. slice_get items (16 * n)) (sym high_is) ∙ there));
  cost = halved (blocks (length items)) first now then (high - low) (high_then - low_then) so_far.cost spent (omega (arith, some)) (omega (arith, mid, low_is, high_is));
}
narrow_on items key first now then low high middle low_then high_then false so_far some mid told spent low_is high_is = record {
  ordered = omega (arith, mid, low_is, high_is, some);
  within = omega (arith, high_is, so_far.within);
  below = λ before one item there. (
      let same : before ≡ middle = omega (arith, one, low_is) in
      not_gt (key_cmp item.0 key) (told item (ap (λ n. slice_get items (16 * n)) (sym same) ∙ there)));
  above = λ more item there. so_far.above (subst (λ n. n < blocks (length items)) high_is more) item (ap (λ n. slice_get items (16 * n)) (sym high_is) ∙ there);
  cost = halved (blocks (length items)) first now then (high - low) (high_then - low_then) so_far.cost spent (omega (arith, some)) (omega (arith, mid, low_is, high_is));
}

pub narrow_less : (low high middle low_then high_then : ℕ) (above : Bool) → low < high → middle ≡ low + (high - low) / 2 → low_then ≡ cond above low (middle + 1) → high_then ≡ cond above middle high → high_then - low_then < high - low
narrow_less low high middle low_then high_then true some mid low_is high_is = omega (arith, some, mid, low_is, high_is)
narrow_less low high middle low_then high_then false some mid low_is high_is = omega (arith, some, mid, low_is, high_is)

pub narrow_done : (items : List Item) (key : Key) (first now low high : ℕ) → IsNarrowed items key first now low high → high ≤ low → IsBlockOf items key low
narrow_done items key first now low high so_far done =
    let same : high ≡ low = omega (arith, done, so_far.ordered) in
    record {
      within = omega (arith, same, so_far.within);
      below = so_far.below;
      above = λ more item there. so_far.above (omega (arith, same, more)) item (ap (λ n. slice_get items (16 * n)) same ∙ there);
    }

pub few_blocks : (n digits : ℕ) → n < 2 ^ digits → blocks n < 2 ^ digits
few_blocks n digits few = let e : blocks n ≤ n = omega arith in omega (arith, few, e)
