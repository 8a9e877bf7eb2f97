-- The ready notices at the front that are held, which a walk passes over.
use Rattle.std.proofs.Common.{◌≡◌, ◌==◌, ◌&&◌, ◌≤◌, ◌<◌, ℕ, nat_le, Bool, true, false, not, cond, min, List, [], ◌∷◌, All, filter, map, length, get_or, suc, suc-le-suc, bytes_eq, refl, sym, ap, subst, ◌∙◌, arith, Less, if◌then◌else◌}
use Rattle.std.proofs.lemmas.Bool.Decides.{nat_tests}
use Rattle.std.proofs.lemmas.List.Elements.{All-append, All-cons, All-filter, All-nil}
use Rattle.std.proofs.lemmas.List.Folds.{list_any_at}
use Rattle.std.specs.BTreeMap.Range.{entries_between, range_contains}
use Rattle.std.specs.List.{list_any, AllByRecursion}
use Rattle.std.specs.List.Sorted.{IsStrictlySortedBy}
use Rattle.std.specs.Map.{keys_of}
use Rattle.std.specs.Ordering.{nat_cmp}
use Rattle.std.specs.declared.ops.Bound.TheVariants.{Included, Unbounded}
use Rattle.ci_change.specs.declared.notice.Notice.{Notice}
use Rattle.ci_change.specs.declared.order.Entry.{Entry}
use Rattle.ci_change.specs.declared.rows.Numbers.{Numbers}
use Rattle.ci_change.specs.Pending.{with_number}
use Rattle.ci_change.specs.Register.{Kept, kept_of, is_held, is_spare, notice_at, without_number, IsHeldBelow, IsOwn, Marks, Notes, Serves, Tries, Stays}
use Rattle.ci_change.specs.Rows.{numbers_at}
use Rattle.ci_change.proofs.CountLemmas.{Tries-out, Puts-out}
use Rattle.ci_change.proofs.FilterLemmas.{any-filter}
use Rattle.ci_change.proofs.FindLemmas.{one_if}
use Rattle.ci_change.proofs.UnservedLemmas.{bytes_eq-flip}

-- ---- a walk through the entries of an order

module _ (rows : List (List ℕ × Numbers)) where
  abbrev pub spare_numbers : List (ℕ × Entry) → List ℕ
  spare_numbers order = map (λ n. n.seq.0) (filter (is_spare rows) (map (notice_at rows) order))

  above-all : (k : ℕ) (order : List (ℕ × Entry)) → AllByRecursion (λ n. nat_cmp k n ≡ Less) (keys_of order) → All (λ n. k < n.seq.0) (map (notice_at rows) order)
  above-all k [] above = All-nil (λ (n : Notice). k < n.seq.0)
  above-all k (e ∷ order) above =
      let less = above.0 in
      let here : k < e.0 = grind (arith, nat_tests, less) in
      All-cons (λ (n : Notice). k < n.seq.0) (notice_at rows e) (map (notice_at rows) order) here (above-all k order above.1)

  first-cons : (e : ℕ × Entry) (order : List (ℕ × Entry)) (from : ℕ) (h : Bool) → is_held rows (notice_at rows e) ≡ h → AllByRecursion (λ n. nat_cmp e.0 n ≡ Less) (keys_of order)
      → (((y : ℕ) (ys : List ℕ) → spare_numbers order ≡ y ∷ ys → from ≤ y) → All (λ n. n.seq.0 < from → is_held rows n ≡ true) (map (notice_at rows) order))
      → ((y : ℕ) (ys : List ℕ) → map (λ n. n.seq.0) (cond (not h) (notice_at rows e ∷ filter (is_spare rows) (map (notice_at rows) order)) (filter (is_spare rows) (map (notice_at rows) order))) ≡ y ∷ ys → from ≤ y)
      → All (λ n. n.seq.0 < from → is_held rows n ≡ true) (map (notice_at rows) (e ∷ order))
  first-cons e order from true held above rest least = All-cons (λ (n : Notice). n.seq.0 < from → is_held rows n ≡ true) (notice_at rows e) (map (notice_at rows) order) (λ below. held) (rest least)
  first-cons e order from false spare above rest least =
      let le = least e.0 _ refl in
      let P : Notice → Type 0 = λ n. n.seq.0 < from → is_held rows n ≡ true in
      All-cons P (notice_at rows e) (map (notice_at rows) order) (λ below. absurd (omega (arith, le, below)))
      (λ k d within below. let high = above-all e.0 order above k d within in absurd (omega (arith, le, below, high)))

  -- below the first one that isn't held all are
  pub first-least : (order : List (ℕ × Entry)) (from : ℕ) → IsStrictlySortedBy nat_cmp (keys_of order) → ((y : ℕ) (ys : List ℕ) → spare_numbers order ≡ y ∷ ys → from ≤ y)
      → All (λ n. n.seq.0 < from → is_held rows n ≡ true) (map (notice_at rows) order)
  unfolding IsStrictlySortedBy
  first-least [] from ordered least = All-nil (λ (n : Notice). n.seq.0 < from → is_held rows n ≡ true)
  first-least (e ∷ order) from ordered least =
      first-cons e order from _ refl ordered.0 (first-least order from ordered.1) least

  module _ (from : ℕ) (test : ℕ × Entry → Bool) (fails : (e : ℕ × Entry) → test e ≡ false → e.0 < from) where
    front-cons : (e : ℕ × Entry) (order : List (ℕ × Entry)) (b : Bool) → test e ≡ b → (e.0 < from → is_held rows (notice_at rows e) ≡ true)
        → filter (is_spare rows) (map (notice_at rows) (filter test order)) ≡ filter (is_spare rows) (map (notice_at rows) order)
        → filter (is_spare rows) (map (notice_at rows) (cond b (e ∷ filter test order) (filter test order))) ≡ filter (is_spare rows) (map (notice_at rows) (e ∷ order))
    front-cons e order true is held rest = ap (λ ns. cond (is_spare rows (notice_at rows e)) (notice_at rows e ∷ ns) ns) rest
    front-cons e order false is held rest =
        let others = filter (is_spare rows) (map (notice_at rows) order) in
        rest ∙ sym (ap (λ b. cond (not b) (notice_at rows e ∷ others) others) (held (fails e is)))

    -- without those at the front that are held, the same ones aren't
    pub front-passed : (order : List (ℕ × Entry)) → All (λ n. n.seq.0 < from → is_held rows n ≡ true) (map (notice_at rows) order)
        → filter (is_spare rows) (map (notice_at rows) (filter test order)) ≡ filter (is_spare rows) (map (notice_at rows) order)
    front-passed [] all = refl
    front-passed (e ∷ order) all =
        front-cons e order _ refl (all 0 (notice_at rows e) (omega arith)) (front-passed order (λ k d within. all (suc k) d (suc-le-suc within)))

-- a walk that begins behind them finds the same ones
pub walk-begins : (rows : List (List ℕ × Numbers)) (order ready left : List (ℕ × Entry)) (kept : Kept) (from : ℕ) → kept_of rows order ready ≡ kept → IsHeldBelow (kept_of rows order ready) from
    → left ≡ entries_between nat_cmp (Included from) Unbounded ready → filter (is_spare kept.rows) (map (notice_at rows) left) ≡ filter (is_spare kept.rows) kept.ready
walk-begins rows order ready left kept from is below begins =
    subst (λ (k : Kept). filter (is_spare k.rows) (map (notice_at rows) left) ≡ filter (is_spare k.rows) k.ready) is
    (ap (λ es. filter (is_spare rows) (map (notice_at rows) es)) begins
    ∙ front-passed rows from (λ e. range_contains nat_cmp (Included from) Unbounded e.0) (λ e fails. lower e.0 fails) ready below)
  where
    lower : (n : ℕ) → range_contains nat_cmp (Included from) Unbounded n ≡ false → n < from
    lower n fails = grind (arith, nat_tests, fails)

-- below the first number of those that aren't held, all are
pub held-below : (rows : List (List ℕ × Numbers)) (order ready : List (ℕ × Entry)) (kept : Kept) (from : ℕ) → kept_of rows order ready ≡ kept → IsStrictlySortedBy nat_cmp (keys_of ready)
    → ((y : ℕ) (ys : List ℕ) → map (λ n. n.seq.0) (filter (is_spare kept.rows) kept.ready) ≡ y ∷ ys → from ≤ y) → IsHeldBelow kept from
held-below rows order ready kept from is ordered =
    subst (λ (k : Kept). ((y : ℕ) (ys : List ℕ) → map (λ n. n.seq.0) (filter (is_spare k.rows) k.ready) ≡ y ∷ ys → from ≤ y) → IsHeldBelow k from) is
    (first-least rows ready from ordered)

-- ---- they stay held, as a register changes

module _ (kept new : Kept) (from now : ℕ) (le : now ≤ from) (below : IsHeldBelow kept from) where
  module _ (marks : (other : List ℕ) → (numbers_at new.rows other).is_out ≡ (numbers_at kept.rows other).is_out) where
    abbrev P : Notice → Type 0
    P n = n.seq.0 < now → is_held new.rows n ≡ true

    still : All P kept.ready
    still k d within low = marks (get_or kept.ready k d).path ∙ below k d within (omega (arith, le, low))

    still-if : (b : Bool) (latest : ℕ) → All P (if b then without_number latest kept.ready else kept.ready)
    still-if true latest = All-filter (λ n. not (n.seq.0 == latest)) P kept.ready still
    still-if false latest = still

  newest-if : (Q : Notice → Type 0) (b : Bool) (notice : Notice) → Q notice → All Q (if b then notice ∷ [] else [])
  newest-if Q true notice q = All-cons Q notice [] q (All-nil Q)
  newest-if Q false notice q = All-nil Q

  pub HeldBelow-noted : (notice : Notice) (joins : Bool) → Notes kept new notice joins → now ≤ notice.seq.0 → IsHeldBelow new now
  HeldBelow-noted notice joins notes low =
      let marks = Puts-out kept.rows new.rows notice.path _ notes.rows refl in
      subst (All (P marks)) (sym notes.ready) (All-append (P marks) (without_number (numbers_at kept.rows notice.path).latest kept.ready) _
      (All-filter _ (P marks) kept.ready (still marks)) (newest-if (P marks) _ notice (λ lower. absurd (omega (arith, low, lower)))))

  pub HeldBelow-served : (path : List ℕ) (number : ℕ) → Serves kept new path number → IsHeldBelow new now
  HeldBelow-served path number serves =
      let marks = Puts-out kept.rows new.rows path _ serves.rows refl in
      let latest = (numbers_at kept.rows path).latest in
      subst (All (P marks)) (sym serves.ready) (still-if marks (nat_le latest number) latest)

  pub HeldBelow-tried : (path : List ℕ) (number : ℕ) (refuses : Bool) (retries : ℕ) → Tries kept new path number refuses retries → IsHeldBelow new now
  HeldBelow-tried path number refuses retries tries =
      let marks = Tries-out kept new path number refuses retries tries in
      subst (All (P marks)) (sym tries.ready) (still-if marks _ _)

  pub HeldBelow-stays : Stays kept new → IsHeldBelow new now
  HeldBelow-stays stays =
      let marks : (other : List ℕ) → (numbers_at new.rows other).is_out ≡ (numbers_at kept.rows other).is_out = λ other. ap (λ (n : Numbers). n.is_out) (stays.numbers other) in
      subst (All (P marks)) (sym stays.ready) (still marks)

-- one path is marked
module _ (old new : Kept) (path : List ℕ) (mark : Bool) (from now : ℕ) (has : Bool) (marks : Marks old new (λ other. bytes_eq path other) mark) (own : IsOwn old path) (below : IsHeldBelow old from)
    (found : length (with_number (numbers_at old.rows path).latest old.ready) ≡ one_if has) (made : now ≡ (if has && not mark then min from (numbers_at old.rows path).latest else from)) where
  abbrev held_then : Notice → Type 0
  held_then n = n.seq.0 < now → is_held new.rows n ≡ true

  within-from : (b : Bool) (latest : ℕ) → (if b then min from latest else from) ≤ from
  within-from true latest = omega arith
  within-from false latest = omega arith

  there : (n : Notice) (m : Bool) → mark ≡ m → has ≡ true → n.seq.0 ≡ (numbers_at old.rows path).latest → n.seq.0 < now → mark ≡ true
  there n true is has_it number low = is
  there n false is has_it number low =
      let lowered : now ≡ min from (numbers_at old.rows path).latest = made ∙ ap (λ b. if b then min from (numbers_at old.rows path).latest else from) (ap (λ h. h && not mark) has_it ∙ ap not is) in
      absurd (omega (arith, lowered, number, low))

  pub HeldBelow-marked : IsHeldBelow new now
  HeldBelow-marked = subst (All held_then) (sym marks.ready) (λ k d within low. by k d within low (bytes_eq path (get_or old.ready k d).path) refl)
    where
      has-it : (b : Bool) → has ≡ b → list_any (λ n. n.seq.0 == (numbers_at old.rows path).latest) old.ready ≡ true → has ≡ true
      has-it true is any = is
      has-it false is any =
          let none = sym (any-filter (λ (n : Notice). n.seq.0 == (numbers_at old.rows path).latest) old.ready) ∙ any in
          let zero_found = found ∙ ap one_if is in
          absurd (grind (arith, nat_tests, none, zero_found))

      by : (k : ℕ) (d : Notice) → k < length old.ready → (get_or old.ready k d).seq.0 < now → (b : Bool) → bytes_eq path (get_or old.ready k d).path ≡ b → is_held new.rows (get_or old.ready k d) ≡ true
      by k d within low true same =
          let n = get_or old.ready k d in
          let here : (n.seq.0 == (numbers_at old.rows path).latest) ≡ true = own k d within ∙ bytes_eq-flip n.path path ∙ same in
          let number : n.seq.0 ≡ (numbers_at old.rows path).latest = grind (arith, nat_tests, here) in
          let it = has-it has refl (list_any_at (λ (m : Notice). m.seq.0 == (numbers_at old.rows path).latest) old.ready k d within here) in
          ap (λ (numbers : Numbers). numbers.is_out) (marks.numbers n.path) ∙ ap (λ b. if b then mark else (numbers_at old.rows n.path).is_out) same ∙ there n mark refl it number low
      by k d within low false other =
          let n = get_or old.ready k d in
          let le = within-from (has && not mark) (numbers_at old.rows path).latest in
          ap (λ (numbers : Numbers). numbers.is_out) (marks.numbers n.path) ∙ ap (λ b. if b then mark else (numbers_at old.rows n.path).is_out) other ∙ below k d within (omega (arith, made, le, low))
