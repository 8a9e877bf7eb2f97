-- Keys are read one after the other, and their blocks begin where the table says.
use Rattle.std.proofs.Common.{◌≡◌, ◌≢◌, ℕ, ◌+◌, ◌-◌, ◌*◌, ◌/◌, ◌%◌, ◌<◌, ◌≤◌, true, false, eqb, List, [], ◌∷◌, ◌++◌, length, take, get_or, Option, Some, None, refl, sym, ap, ◌∙◌, inl, inr, append_assoc, length-append, arith, bytes_eq}
use Rattle.std.specs.List.{range_with_len}
use Rattle.std.proofs.lemmas.Bool.{cases_lt, ne_eqb}
use Rattle.std.proofs.lemmas.Grind.{same_number_lists}
use Rattle.std.proofs.lemmas.List.{get_or-map, take-append-le, take_at}
use Rattle.std.proofs.lemmas.List.FromFn.{get_or-range_with_len, length-range_with_len}
use Rattle.std.proofs.lemmas.Slice.Eq.{bytes_eq-Decides}
use Rattle.ci_front.specs.Front.{◌>>=◌}
use Rattle.ci_front.proofs.FrontLemmas.{AreBytes, AreBytes-rest, bind_some, some_is}
use Rattle.ci_front.proofs.CodeLemmas.{with_front}
use Rattle.ci_keys.specs.declared.key.Key.{Key}
use Rattle.ci_segment.specs.Chain.{chain_at, chained, reached}
use Rattle.ci_segment.specs.Postings.{Posting}
use Rattle.ci_segment.specs.Reading.{Fails}
use Rattle.ci_segment.specs.Segment.{IsItemAt, Item, Spot, after_item, blocks, first_spot, item_bytes, items_bytes, offset, offsets}
use Rattle.ci_segment.specs.SegmentReading.{item_at, items_of, tabled}
use Rattle.ci_segment.specs.declared.fault.SegmentFault.{SegmentFault}
use Rattle.ci_segment.specs.declared.fault.SegmentFault.TheVariants as faults
use Rattle.ci_segment.proofs.ChainLemmas.{chain_done, chain_goes_on, chain_stops, chain_takes}
use Rattle.ci_segment.proofs.ItemLemmas.{item_code}
use Rattle.ci_segment.proofs.SegmentLemmas.{count_offsets, tabled_is}
use Rattle.ci_segment.proofs.WriteLemmas.{chained_one, reached_one}

-- the keys before a spot were read, and their blocks begin where the table says
pub record IsReadTo (count : ℕ) (table bytes : List ℕ) (at : ℕ) (before : Option Key) (rest : List ℕ) : Type 0 where
  pub front : List Item
  pub size : length front ≡ at
  pub spot : reached after_item first_spot front ≡ record { at = at; before = before }
  pub took : bytes ≡ items_bytes front ++ rest
  pub whole : with_front front (chain_at item_at after_item (record { at = at; before = before }) (count - at) rest) ≡ chain_at item_at after_item first_spot count bytes
  pub tabled : (b : ℕ) → b < blocks at → get_or table b 0 ≡ offset front b

none_front : (read : Option (List Item × List ℕ)) → with_front [] read ≡ read
none_front (Some x) = refl
none_front None = refl

pub read_begins : (count : ℕ) (table bytes : List ℕ) → IsReadTo count table bytes 0 None bytes
unfolding reached chained
read_begins count table bytes = record {
  front = [];
  size = refl;
  spot = refl;
  took = refl;
  whole = none_front (chain_at item_at after_item first_spot (count - 0) bytes) ∙ ap (λ k. chain_at item_at after_item first_spot k bytes) (let e : count - 0 ≡ count = omega arith in e);
  tabled = λ b few. absurd (omega (arith, few));
}

-- where a block begins, whatever keys follow
pub same_offset : (front back : List Item) (b : ℕ) → 16 * b ≤ length front → offset (front ++ back) b ≡ offset front b
same_offset front back b within = ap (λ items. length (items_bytes items)) (take-append-le (16 * b) front back within)

pub last_offset : (front back : List Item) (at b : ℕ) → length front ≡ at → at % 16 ≡ 0 → b ≡ at / 16 → offset (front ++ back) b ≡ length (items_bytes front)
last_offset front back at b size first is =
    let k : 16 * b ≡ length front = omega (arith, size, first, is) in
    ap (λ items. length (items_bytes items)) (ap (λ n. take n (front ++ back)) k ∙ take_at front back (length front) refl)

pub read_goes_on : (count : ℕ) (table bytes : List ℕ) (at : ℕ) (before : Option Key) (rest : List ℕ) (key : Key) (postings : List Posting) (after : List ℕ) → AreBytes bytes → at < count
    → item_at (record { at = at; before = before }) rest ≡ Some ((key, postings), after) → (at % 16 ≡ 0 → get_or table (at / 16) 0 ≡ length bytes - length rest)
    → IsReadTo count table bytes at before rest → IsReadTo count table bytes (at + 1) (Some key) after
read_goes_on count table bytes at before rest key postings after fits within read told so_far =
    let spot : Spot = record { at = at; before = before } in
    let item : Item = (key, postings) in
    let t = (item_code spot).takes rest item after (AreBytes-rest (items_bytes so_far.front) rest bytes so_far.took fits) read in
    let took : bytes ≡ items_bytes (so_far.front ++ item ∷ []) ++ after =
    so_far.took ∙ ap (λ r. items_bytes so_far.front ++ r) t.1 ∙ sym (append_assoc (items_bytes so_far.front) (item_bytes spot item) after)
    ∙ ap (λ s. (items_bytes so_far.front ++ item_bytes s item) ++ after) (sym so_far.spot)
    ∙ ap (λ f. f ++ after) (sym (chained_one item_bytes IsItemAt after_item first_spot so_far.front item)) in
    let size : length bytes ≡ length (items_bytes so_far.front) + length rest = ap length so_far.took ∙ length-append (items_bytes so_far.front) rest in
    record {
      front = so_far.front ++ item ∷ [];
      size = length-append so_far.front (item ∷ []) ∙ (let e : length so_far.front + 1 ≡ at + 1 = omega (arith, so_far.size) in e);
      spot = reached_one item_bytes IsItemAt after_item first_spot so_far.front item ∙ ap (λ s. after_item s item) so_far.spot;
      took = took;
      whole = chain_goes_on item_at after_item so_far.front count at spot rest item after (chain_at item_at after_item first_spot count bytes) within read so_far.whole;
      tabled = λ b few. elim (cases_lt b (blocks at)) [
        | inl old ↦ so_far.tabled b old ∙ sym (same_offset so_far.front (item ∷ []) b (omega (arith, old, so_far.size)))
        | inr new ↦ (
            let first : at % 16 ≡ 0 = omega (arith, few, new) in
            let is : b ≡ at / 16 = omega (arith, few, new) in
            ap (λ k. get_or table k 0) is ∙ told first ∙ (let e : length bytes - length rest ≡ length (items_bytes so_far.front) = omega (arith, size) in e) ∙ sym (last_offset so_far.front (item ∷ []) at b so_far.size first is))
      ];
    }

-- a key isn't read
pub read_stops : (count : ℕ) (table bytes : List ℕ) (at : ℕ) (before : Option Key) (rest : List ℕ) → at < count → item_at (record { at = at; before = before }) rest ≡ None
    → IsReadTo count table bytes at before rest → items_of count table bytes ≡ None
unfolding items_of
read_stops count table bytes at before rest within none so_far =
    let e : chain_at item_at after_item first_spot count bytes ≡ None =
    chain_stops item_at after_item so_far.front count at (record { at = at; before = before }) rest (chain_at item_at after_item first_spot count bytes) within none so_far.whole in
    rw e refl

some_none : {A : Type 0} (r : Option A) → ((x : A) → r ≡ Some x → ⊥) → r ≡ None
some_none None never = refl
some_none (Some x) never = absurd (never x refl)

front_of : (front : List Item) (read : Option (List Item × List ℕ)) (items : List Item) (rest : List ℕ) → with_front front read ≡ Some (items, rest) → (back : List Item) × (items ≡ front ++ back)
front_of front (Some x) items rest e = let same = some_is (front ++ x.0, x.1) (items, rest) e in (x.0, sym (ap (λ v. v.0) same))
front_of front None items rest e = absurd cc

pub read_offset : (items : List Item) (b : ℕ) → b < blocks (length items) → get_or (offsets items) b 0 ≡ offset items b
read_offset items b within =
    let n = blocks (length items) in
    get_or-map (offset items) (range_with_len 0 n) b 0 0 (omega (arith, within, length-range_with_len 0 n))
    ∙ ap (offset items) (get_or-range_with_len 0 n b 0 within ∙ (let e : 0 + b ≡ b = omega arith in e))

-- a block begins elsewhere than the table says
pub block_bad : (count : ℕ) (table bytes : List ℕ) (at : ℕ) (before : Option Key) (rest : List ℕ) → AreBytes bytes → at < count → at % 16 ≡ 0 → get_or table (at / 16) 0 ≢ length bytes - length rest
    → IsReadTo count table bytes at before rest → items_of count table bytes ≡ None
unfolding items_of
block_bad count table bytes at before rest fits within first other so_far =
    some_none (chain_at item_at after_item first_spot count bytes >>= tabled table) (λ items e.
    let step = bind_some (chain_at item_at after_item first_spot count bytes) (tabled table) items e in
    let is = tabled_is table step.0 items step.2 in
    let c = chain_takes item_bytes IsItemAt item_at after_item item_code first_spot count bytes step.0.0 step.0.1 fits step.1 in
    let parts = front_of so_far.front (chain_at item_at after_item (record { at = at; before = before }) (count - at) rest) step.0.0 step.0.1 (so_far.whole ∙ step.1) in
    let same : items ≡ so_far.front ++ parts.0 = sym is.0 ∙ parts.1 in
    let long : length items ≡ count = ap length (sym is.0) ∙ c.1 in
    let size : length bytes ≡ length (items_bytes so_far.front) + length rest = ap length so_far.took ∙ length-append (items_bytes so_far.front) rest in
    let at_front : offset items (at / 16) ≡ length (items_bytes so_far.front) = ap (λ xs. offset xs (at / 16)) same ∙ last_offset so_far.front parts.0 at (at / 16) so_far.size first refl in
    let there : get_or table (at / 16) 0 ≡ offset items (at / 16) = ap (λ t. get_or t (at / 16) 0) is.2 ∙ read_offset items (at / 16) (omega (arith, long, within)) in
    other (there ∙ at_front ∙ (let back : length (items_bytes so_far.front) ≡ length bytes - length rest = omega (arith, size) in back)))

-- all keys were read, and nothing follows
pub read_done : (count : ℕ) (table bytes : List ℕ) (at : ℕ) (before : Option Key) (rest : List ℕ) → at ≡ count → length table ≡ blocks count → length rest ≡ 0
    → (so_far : IsReadTo count table bytes at before rest) → items_of count table bytes ≡ Some so_far.front
unfolding items_of
read_done count table bytes at before rest all size none so_far =
    let long : length so_far.front ≡ count = so_far.size ∙ all in
    let e : chain_at item_at after_item first_spot count bytes ≡ Some (so_far.front, rest) =
    chain_done item_at after_item so_far.front count at (record { at = at; before = before }) rest (chain_at item_at after_item first_spot count bytes) (omega (arith, all)) so_far.whole in
    let few : length (offsets so_far.front) ≡ blocks count = count_offsets so_far.front ∙ ap blocks long in
    let same : table ≡ offsets so_far.front = same_number_lists table (offsets so_far.front) (size ∙ sym few) (λ b within.
    so_far.tabled b (omega (arith, within, size, all)) ∙ sym (read_offset so_far.front b (omega (arith, within, size, long)))) in
    let good : bytes_eq table (offsets so_far.front) ≡ true = (bytes_eq-Decides table (offsets so_far.front)).1 same in
    rw (e, none, good) refl

-- bytes are left
pub read_long : (count : ℕ) (table bytes : List ℕ) (at : ℕ) (before : Option Key) (rest : List ℕ) → at ≡ count → 0 < length rest
    → IsReadTo count table bytes at before rest → items_of count table bytes ≡ None
unfolding items_of
read_long count table bytes at before rest all some so_far =
    let e : chain_at item_at after_item first_spot count bytes ≡ Some (so_far.front, rest) =
    chain_done item_at after_item so_far.front count at (record { at = at; before = before }) rest (chain_at item_at after_item first_spot count bytes) (omega (arith, all)) so_far.whole in
    let isnt : eqb (length rest) 0 ≡ false = ne_eqb (length rest) 0 (λ none. absurd (omega (arith, none, some))) in
    rw (e, isnt) refl

-- what a failure in between says of the whole
pub block_ends : (e : SegmentFault) (count : ℕ) (table bytes : List ℕ) (at : ℕ) (before : Option Key) (rest : List ℕ) → AreBytes bytes → at < count
    → (e ≡ faults.BadSegment → (at % 16 ≡ 0) × (get_or table (at / 16) 0 ≢ length bytes - length rest)) → IsReadTo count table bytes at before rest → Fails e (items_of count table bytes)
block_ends faults.BadSegment count table bytes at before rest fits within bad so_far = let b = bad refl in block_bad count table bytes at before rest fits within b.0 b.1 so_far
block_ends faults.OutOfMemory count table bytes at before rest fits within bad so_far = tt

pub item_ends : (e : SegmentFault) (count : ℕ) (table bytes : List ℕ) (at : ℕ) (before : Option Key) (rest : List ℕ) → at < count
    → (e ≡ faults.BadSegment → item_at (record { at = at; before = before }) rest ≡ None) → IsReadTo count table bytes at before rest → Fails e (items_of count table bytes)
item_ends faults.BadSegment count table bytes at before rest within bad so_far = read_stops count table bytes at before rest within (bad refl) so_far
item_ends faults.OutOfMemory count table bytes at before rest within bad so_far = tt
