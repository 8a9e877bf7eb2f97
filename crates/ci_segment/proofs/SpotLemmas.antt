-- Where keys stand.
use Rattle.std.proofs.Common.{◌≡◌, ◌≢◌, ℕ, zero, suc, ◌+◌, ◌-◌, ◌%◌, ◌<◌, ◌≤◌, true, false, eqb, List, [], ◌∷◌, length, take, get_or, Option, Some, None, refl, sym, ap, subst, ◌∙◌, arith}
use Rattle.std.specs.Prelude.{IfSome, slice_get}
use Rattle.std.proofs.lemmas.Bool.{ne_eqb, eq-eqb}
use Rattle.std.proofs.lemmas.List.{length-take-le}
use Rattle.std.proofs.lemmas.Option.{slice_get_read}
use Rattle.ci_keys.specs.declared.key.Key.{Key}
use Rattle.ci_segment.specs.Chain.{reached}
use Rattle.ci_segment.specs.Segment.{IsItemAt, Item, Spot, after_item, first_spot, item_bytes, leaning, shared, spot_at}
use Rattle.ci_segment.proofs.WriteLemmas.{reached_more}

reached_counts : (spot : Spot) (items : List Item) → (reached after_item spot items).at ≡ spot.at + length items
unfolding reached
reached_counts spot [] = omega arith
reached_counts spot (x ∷ xs) = omega (arith, reached_counts (after_item spot x) xs)

pub spot_counts : (items : List Item) (i : ℕ) → i ≤ length items → (spot_at items i).at ≡ i
spot_counts items i within = omega (arith, reached_counts first_spot (take i items), length-take-le i items within)

pub spot_first : (items : List Item) → spot_at items 0 ≡ first_spot
unfolding reached
spot_first items = refl

pub spot_next : (items : List Item) (i : ℕ) (x : Item) → i < length items → x ≡ get_or items i x → spot_at items (i + 1) ≡ after_item (spot_at items i) x
spot_next items i x within is = reached_more item_bytes IsItemAt after_item first_spot items i x within is

pub spot_after : (items : List Item) (i : ℕ) (x : Item) → i < length items → x ≡ get_or items i x → spot_at items (i + 1) ≡ record { at = i + 1; before = Some x.0 }
spot_after items i x within is =
    let counts : (spot_at items i).at ≡ i = spot_counts items i (omega (arith, within)) in
    spot_next items i x within is ∙ ap (λ n. record { at = n + 1; before = Some x.0 }) counts

-- the first key of a block has nothing of the word before it
pub shared_none : (items : List Item) (i : ℕ) (key : Key) → i ≤ length items → i % 16 ≡ 0 → shared (spot_at items i) key ≡ 0
shared_none items i key within first =
    let counts : (spot_at items i).at ≡ i = spot_counts items i within in
    let test : eqb ((spot_at items i).at % 16) 0 ≡ true = eq-eqb ((spot_at items i).at % 16) 0 (ap (λ n. n % 16) counts ∙ first) in
    rw test refl

-- each other key has what it leans on
pub shared_some : (items : List Item) (i : ℕ) (b : Item) (key : Key) → i < length items → i % 16 ≢ 0 → b ≡ get_or items (i - 1) b → shared (spot_at items i) key ≡ leaning (Some b.0) key
shared_some items zero b key within other is = absurd (other refl)
shared_some items (suc j) b key within other is =
    let k : suc j - 1 ≡ j = omega arith in
    let k2 : j + 1 ≡ suc j = omega arith in
    let spot : spot_at items (suc j) ≡ record { at = j + 1; before = Some b.0 } = subst (λ n. spot_at items n ≡ record { at = j + 1; before = Some b.0 }) k2 (spot_after items j b (omega (arith, within)) (is ∙ ap (λ n. get_or items n b) k)) in
    let test : eqb ((j + 1) % 16) 0 ≡ false = ne_eqb ((j + 1) % 16) 0 (λ e. other (ap (λ n. n % 16) (sym k2) ∙ e)) in
    ap (λ s. shared s key) spot ∙ rw test refl

pub if_some : {X : Type 0} (P : X → Type 0) (o : Option X) → ((x : X) → o ≡ Some x → P x) → IfSome o P
if_some P (Some x) each = each x refl
if_some P None each = tt

pub shared_first : (items : List Item) (i : ℕ) → i < length items → i % 16 ≡ 0 → IfSome (slice_get items i) (λ item. 0 ≡ shared (spot_at items i) item.0)
shared_first items i within first =
    if_some (λ (item : Item). 0 ≡ shared (spot_at items i) item.0) (slice_get items i) (λ item e. sym (shared_none items i item.0 (omega (arith, within)) first))

pub shared_later : (items : List Item) (i n : ℕ) (b x : Item) → i < length items → i % 16 ≢ 0 → b ≡ get_or items (i - 1) b → x ≡ get_or items i x → n ≡ leaning (Some b.0) x.0
    → IfSome (slice_get items i) (λ item. n ≡ shared (spot_at items i) item.0)
shared_later items i n b x within other before is told =
    let here : slice_get items i ≡ Some x = slice_get_read items (length items) i x refl within is in
    rw here (told ∙ sym (shared_some items i b x.0 within other before))
