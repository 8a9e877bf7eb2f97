-- The place of a key.
use Rattle.std.proofs.Common.{◌≡◌, ◌≢◌, ℕ, zero, suc, ◌+◌, ◌-◌, ◌*◌, ◌^◌, ◌<◌, ◌≤◌, true, false, List, length, map, take, get_or, Some, refl, sym, ap, subst, ◌∙◌, inl, inr, arith}
use Rattle.std.specs.Prelude.{slice_get}
use Rattle.std.specs.declared.cmp.Ordering.TheVariants.{Less, Equal, Greater}
use Rattle.std.proofs.lemmas.Bool.{cases_lt}
use Rattle.std.proofs.lemmas.Cmp.{tied_itself}
use Rattle.std.proofs.lemmas.List.{get_or-drop, get_or-map, get_or-take, length-map, length-take, length-drop}
use Rattle.std.proofs.lemmas.Map.Keys.{Less-from_sorted}
use Rattle.std.proofs.lemmas.Option.{slice_get-get_or}
use Rattle.ci_keys.proofs.Keys.{key_cmp_total, key_cmp-IsAntisymmetric}
use Rattle.ci_keys.specs.Key.{key_cmp}
use Rattle.ci_keys.specs.Order.{Ascends}
use Rattle.ci_keys.specs.declared.key.Key.{Key}
use Rattle.ci_front.proofs.FrontLemmas.{some_is}
use Rattle.ci_segment.specs.Finding.{IsFoundAt, IsPlaceOf}
use Rattle.ci_segment.specs.Segment.{Item}
use Rattle.ci_segment.proofs.PlaceLemmas.{get_map, there_is}

module _ (items : List Item) (up : Ascends (λ item. item.0) key_cmp items) (key : Key) where
  -- an earlier key is below a later one
  pub less_at : (i j : ℕ) (d : Item) → i < j → j < length items → key_cmp (get_or items i d).0 (get_or items j d).0 ≡ Less
  less_at i j d lt within =
      let size : length (map (λ (item : Item). item.0) items) ≡ length items = length-map items (λ (item : Item). item.0) in
      let e = Less-from_sorted key_cmp (map (λ (item : Item). item.0) items) i j d.0 up lt (omega (arith, size, within)) in
      subst (λ (k : Key). key_cmp (get_or items i d).0 k ≡ Less) (get_or-map (λ (item : Item). item.0) items j d d.0 within)
      (subst (λ (k : Key). key_cmp k (get_or (map (λ (item : Item). item.0) items) j d.0) ≡ Less) (get_or-map (λ (item : Item). item.0) items i d d.0 (omega (arith, lt, within))) e)

  pub place_is : (at : ℕ) → at ≤ length items → ((before : ℕ) → before + 1 ≡ at → (b : Item) → slice_get items before ≡ Some b → key_cmp b.0 key ≡ Less)
      → ((x : Item) → slice_get items at ≡ Some x → key_cmp x.0 key ≢ Less) → IsPlaceOf items key at
  place_is at within before here = record {
    within = within;
    below = λ k d in_front. (
        let low : k < at = omega (arith, in_front, length-take at items) in
        let last : at - 1 < length items = omega (arith, low, within) in
        let one : at - 1 + 1 ≡ at = omega (arith, low) in
        let less : key_cmp (get_or items (at - 1) d).0 key ≡ Less = before (at - 1) one (get_or items (at - 1) d) (slice_get-get_or items (at - 1) d last) in
        let this : key_cmp (get_or items k d).0 key ≡ Less = elim (cases_lt k (at - 1)) [
          | inl earlier ↦ key_cmp_total.trans (get_or items k d).0 (get_or items (at - 1) d).0 key (less_at k (at - 1) d earlier last) less
          | inr same ↦ (let e : k ≡ at - 1 = omega (arith, same, low) in subst (λ n. key_cmp (get_or items n d).0 key ≡ Less) (sym e) less)
        ] in
        subst (λ (y : Item). key_cmp y.0 key ≡ Less) (sym (get_or-take at items k d low)) this);
    above = λ k d behind. (
        let in_range : at + k < length items = omega (arith, behind, length-drop at items) in
        let first : at < length items = omega (arith, in_range) in
        let not_less : key_cmp (get_or items at d).0 key ≢ Less = here (get_or items at d) (slice_get-get_or items at d first) in
        let this : key_cmp (get_or items (at + k) d).0 key ≢ Less = λ e. elim (cases_lt 0 k) [
          | inl later ↦ (let up_to : at < at + k = omega (arith, later) in not_less (key_cmp_total.trans (get_or items at d).0 (get_or items (at + k) d).0 key (less_at at (at + k) d up_to in_range) e))
          | inr none ↦ (let same : at + k ≡ at = omega (arith, none) in not_less (subst (λ n. key_cmp (get_or items n d).0 key ≡ Less) same e))
        ] in
        subst (λ (y : Item). key_cmp y.0 key ≢ Less) (sym (get_or-drop at items k d)) this);
  }

  -- the key at its place
  pub found_at : (at : ℕ) (x : Item) → slice_get items at ≡ Some x → at < length items → key_cmp x.0 key ≡ Equal → ((before : ℕ) → before + 1 ≡ at → (b : Item) → slice_get items before ≡ Some b → key_cmp b.0 key ≡ Less)
      → IsFoundAt items key at true
  found_at at x there within equal before = record {
    stands = place_is at (omega (arith, within)) before (λ y is e. let same : x ≡ y = some_is x y (sym there ∙ is) in (let tied : key_cmp y.0 key ≡ Equal = subst (λ (z : Item). key_cmp z.0 key ≡ Equal) same equal in absurd (let no : Equal ≡ Less = sym tied ∙ e in cc)));
    there = λ yes. get_map (λ (item : Item). item.0) items at x there ∙ ap (λ k. Some k) (key_cmp-IsAntisymmetric x.0 key equal);
    nowhere = λ no. absurd cc;
  }

  -- no key, where the one at the place is above
  pub nowhere_at : (at : ℕ) → at ≤ length items → ((before : ℕ) → before + 1 ≡ at → (b : Item) → slice_get items before ≡ Some b → key_cmp b.0 key ≡ Less)
      → ((x : Item) → slice_get items at ≡ Some x → key_cmp x.0 key ≡ Greater) → IsFoundAt items key at false
  nowhere_at at within before here =
      let place = place_is at within before (λ x is e. absurd (let no : Greater ≡ Less = sym (here x is) ∙ e in cc)) in
      record {
        stands = place;
        there = λ yes. absurd cc;
        nowhere = λ no has. (
            let j = has.0 in
            let size : length (map (λ (item : Item). item.0) items) ≡ length items = length-map items (λ (item : Item). item.0) in
            let in_range : j < length items = omega (arith, size, has.1) in
            let (y, y_is, y_there) = there_is items j in_range in
            let same : y.0 ≡ key = some_is y.0 key (sym (get_map (λ (item : Item). item.0) items j y y_there) ∙ slice_get-get_or (map (λ (item : Item). item.0) items) j key has.1 ∙ ap (λ k. Some k) has.2) in
            let tied : key_cmp y.0 key ≡ Equal = subst (λ (k : Key). key_cmp y.0 k ≡ Equal) same (tied_itself key_cmp_total y.0) in
            let at_j : y ≡ get_or items j y = y_is in
            elim (cases_lt j at) [
              | inl low ↦ (
                  let front : j < length (take at items) = omega (arith, low, in_range, length-take at items) in
                  let less : key_cmp (get_or (take at items) j y).0 key ≡ Less = place.below j y front in
                  let less_y : key_cmp y.0 key ≡ Less = subst (λ (z : Item). key_cmp z.0 key ≡ Less) (get_or-take at items j y low ∙ sym at_j) less in
                  let no : Less ≡ Equal = sym less_y ∙ tied in cc)
              | inr high ↦ (
                  let first : at < length items = omega (arith, high, in_range) in
                  let x : Item = get_or items at y in
                  let great : key_cmp x.0 key ≡ Greater = here x (slice_get-get_or items at y first) in
                  elim (cases_lt at j) [
                    | inl after ↦ (
                        let below : key_cmp x.0 (get_or items j y).0 ≡ Less = less_at at j y after in_range in
                        let below_key : key_cmp x.0 key ≡ Less = subst (λ (k : Key). key_cmp x.0 k ≡ Less) (ap (λ (z : Item). z.0) (sym at_j) ∙ same) below in
                        let no : Less ≡ Greater = sym below_key ∙ great in cc)
                    | inr here_too ↦ (
                        let e : at ≡ j = omega (arith, high, here_too) in
                        let x_y : x ≡ y = ap (λ n. get_or items n y) e ∙ sym at_j in
                        let equal : key_cmp x.0 key ≡ Equal = subst (λ (z : Item). key_cmp z.0 key ≡ Equal) (sym x_y) tied in
                        let no : Equal ≡ Greater = sym equal ∙ great in cc)
                  ])
            ]);
      }

-- ---- the count of comparisons

-- from so many blocks, and with so many comparisons, so many are left
abbrev pub IsHalved : ℕ → ℕ → ℕ → ℕ → Type 0
IsHalved blocks first now width = (digits : ℕ) → blocks < 2 ^ digits → (left : ℕ) × (now + left ≡ first + digits) × (width < 2 ^ left)

pub halved_first : (blocks first width : ℕ) → width ≤ blocks → IsHalved blocks first first width
halved_first blocks first width within digits few = (digits, refl, omega (arith, within, few))

pub halved : (blocks first now then width less : ℕ) → IsHalved blocks first now width → then ≡ now + 1 → 0 < width → 2 * less ≤ width → IsHalved blocks first then less
halved blocks first now then width less so_far is some half digits few =
    let (left, spent, room) = so_far digits few in half_again left spent room
  where
    half_again : (left : ℕ) → now + left ≡ first + digits → width < 2 ^ left → (left : ℕ) × (then + left ≡ first + digits) × (less < 2 ^ left)
    half_again zero spent room = absurd (omega (arith, some, room))
    half_again (suc left) spent room =
        let twice : 2 ^ suc left ≡ 2 * 2 ^ left = omega arith in
        (left, omega (arith, spent, is), omega (arith, room, twice, half))

pub halved_cost : (blocks first now width digits : ℕ) → IsHalved blocks first now width → blocks < 2 ^ digits → now ≤ first + digits
halved_cost blocks first now width digits so_far few = let (left, spent, room) = so_far digits few in omega (arith, spent)
