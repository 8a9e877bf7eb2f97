-- The unserved notices of a register, as its rows and its order change.
use Rattle.std.proofs.Common.{◌≡◌, ◌==◌, ◌&&◌, ◌||◌, ℕ, ◌<◌, ◌≤◌, max, suc, suc-le-suc, IsTrue, Bool, true, false, not, cond, List, [], ◌∷◌, ◌++◌, All, map, length, get_or, nat_le, nat_lt, slice_get, bytes_eq, Some, Result, Ok, Err, OnErr, refl, sym, ap, subst, ◌∙◌, arith, if◌then◌else◌}
use Rattle.std.proofs.lemmas.List.{map-append, get_or-map, length-map}
use Rattle.std.proofs.lemmas.List.Elements.{All-append, All-cons, All-filter, All-nil}
use Rattle.std.proofs.lemmas.Map.Entries.{length-keys_of}
use Rattle.std.proofs.lemmas.Option.{get_or_from_slice_get}
use Rattle.std.specs.Map.{keys_of}
use Rattle.ci_change.specs.declared.notice.Notice.{Notice}
use Rattle.ci_change.specs.declared.order.Entry.{Entry}
use Rattle.ci_change.specs.declared.rows.Numbers.{Numbers}
use Rattle.ci_change.specs.Order.{without_entry, given_up, renewed, retired}
use Rattle.ci_change.specs.Register.{Kept, kept_of, notice_at, without_number, with_newest, without_given_up, without_served, tried, Notes, Serves, Stays, Tries}
use Rattle.ci_change.specs.Rows.{numbers_at, sets_aside, KeepsRows, Puts}

-- ---- the notices of an order

-- they keep their paths where no row is moved
map-notice_at : (old new : List (List ℕ × Numbers)) (order : List (ℕ × Entry)) → KeepsRows old new → All (λ e. e.1.place < length old) order
    → map (notice_at new) order ≡ map (notice_at old) order
map-notice_at old new [] keeps places = refl
map-notice_at old new (e ∷ order) keeps places =
    ap (λ p. record { path = p; seq = record { 0 = e.0 }; what = e.1.what } ∷ map (notice_at new) order) (keeps.paths e.1.place (places 0 e (omega arith)))
    ∙ ap (λ ns. notice_at old e ∷ ns) (map-notice_at old new order keeps (λ k d within. places (suc k) d (suc-le-suc within)))

-- they are the same where the paths are
pub map-same_keys : (old new : List (List ℕ × Numbers)) (order : List (ℕ × Entry)) → keys_of new ≡ keys_of old → map (notice_at new) order ≡ map (notice_at old) order
map-same_keys old new order same =
    ap (λ ps. map (λ (e : ℕ × Entry). let n : Notice = record { path = get_or ps e.1.place []; seq = record { 0 = e.0 }; what = e.1.what } in n) order) same

cond-map : (b : Bool) (rows : List (List ℕ × Numbers)) (e : ℕ × Entry) (kept : List (ℕ × Entry))
    → map (notice_at rows) (cond b (e ∷ kept) kept) ≡ cond b (notice_at rows e ∷ map (notice_at rows) kept) (map (notice_at rows) kept)
cond-map true rows e kept = refl
cond-map false rows e kept = refl

map-without_entry : (rows : List (List ℕ × Numbers)) (number : ℕ) (order : List (ℕ × Entry)) → map (notice_at rows) (without_entry number order) ≡ without_number number (map (notice_at rows) order)
map-without_entry rows number [] = refl
map-without_entry rows number (e ∷ order) =
    cond-map (not (e.0 == number)) rows e (without_entry number order)
    ∙ ap (λ ns. cond (not (e.0 == number)) (notice_at rows e ∷ ns) ns) (map-without_entry rows number order)

if-map : (b : Bool) (rows : List (List ℕ × Numbers)) (e : ℕ × Entry) → map (notice_at rows) (if b then e ∷ [] else []) ≡ (if b then notice_at rows e ∷ [] else [])
if-map true rows e = refl
if-map false rows e = refl

map-renewed : (rows : List (List ℕ × Numbers)) (order : List (ℕ × Entry)) (numbers : Numbers) (newest : ℕ × Entry) (joins : Bool)
    → map (notice_at rows) (renewed order numbers newest joins) ≡ with_newest (map (notice_at rows) order) numbers (notice_at rows newest) joins
map-renewed rows order numbers newest joins =
    map-append (notice_at rows) (without_entry numbers.latest order) _
    ∙ ap (λ ns. ns ++ map (notice_at rows) (if joins && nat_lt numbers.served newest.0 then newest ∷ [] else [])) (map-without_entry rows numbers.latest order)
    ∙ ap (λ ns. without_number numbers.latest (map (notice_at rows) order) ++ ns) (if-map (joins && nat_lt numbers.served newest.0) rows newest)

map-retired : (rows : List (List ℕ × Numbers)) (order : List (ℕ × Entry)) (latest served : ℕ)
    → map (notice_at rows) (retired order latest served) ≡ without_served (map (notice_at rows) order) latest served
map-retired rows order latest served = by (nat_le latest served)
  where
    by : (b : Bool) → map (notice_at rows) (if b then without_entry latest order else order) ≡ (if b then without_number latest (map (notice_at rows) order) else map (notice_at rows) order)
    by true = map-without_entry rows latest order
    by false = refl

map-given_up : (rows : List (List ℕ × Numbers)) (order : List (ℕ × Entry)) (numbers : Numbers) (retries : ℕ)
    → map (notice_at rows) (given_up order numbers retries) ≡ without_given_up (map (notice_at rows) order) numbers retries
map-given_up rows order numbers retries = by (nat_lt 0 numbers.latest && sets_aside numbers retries)
  where
    by : (b : Bool) → map (notice_at rows) (if b then without_entry numbers.latest order else order) ≡ (if b then without_number numbers.latest (map (notice_at rows) order) else map (notice_at rows) order)
    by true = map-without_entry rows numbers.latest order
    by false = refl

-- what holds of the number of each notice holds of those of the order
pub All-from_notices : (rows : List (List ℕ × Numbers)) (order : List (ℕ × Entry)) (notices : List Notice) (number : ℕ) → map (notice_at rows) order ≡ notices → All (λ n. n.seq.0 < number) notices → All (λ e. e.0 < number) order
All-from_notices rows order notices number is all k d within =
    let e : get_or (map (notice_at rows) order) k (notice_at rows d) ≡ notice_at rows (get_or order k d) = get_or-map (notice_at rows) order k d (notice_at rows d) within in
    let below = subst (λ (ns : List Notice). All (λ n. n.seq.0 < number) ns) (sym is) all in
    subst (λ (n : Notice). n.seq.0 < number) e (below k (notice_at rows d) (omega (arith, length-map {A = ℕ × Entry} {B = Notice})))

-- ---- each entry of an order has its place, when no row is lost

-- rows with the same paths are as many
pub length-same_keys : (old new : List (List ℕ × Numbers)) → keys_of new ≡ keys_of old → length new ≡ length old
length-same_keys old new same = sym (length-keys_of new) ∙ ap length same ∙ length-keys_of old

pub places-mono : (old new : ℕ) (order : List (ℕ × Entry)) → old ≤ new → All (λ e. e.1.place < old) order → All (λ e. e.1.place < new) order
places-mono old new order grows all k d within = omega (arith, all k d within)

places-if : (b : Bool) (limit : ℕ) (newest : ℕ × Entry) → newest.1.place < limit → All (λ (e : ℕ × Entry). e.1.place < limit) (if b then newest ∷ [] else [])
places-if true limit newest place = All-cons (λ (e : ℕ × Entry). e.1.place < limit) newest [] place (All-nil _)
places-if false limit newest place = All-nil _

pub places-renewed : (old new : ℕ) (order after : List (ℕ × Entry)) (numbers : Numbers) (newest : ℕ × Entry) (joins : Bool) → All (λ e. e.1.place < old) order → old ≤ new → newest.1.place < new
    → after ≡ renewed order numbers newest joins → All (λ e. e.1.place < new) after
places-renewed old new order after numbers newest joins places grows place is =
    let P : ℕ × Entry → Type 0 = λ e. e.1.place < new in
    let kept = All-filter (λ e. not (e.0 == numbers.latest)) P order (places-mono old new order grows places) in
    subst (All P) (sym is) (All-append P (without_entry numbers.latest order) _ kept (places-if (joins && nat_lt numbers.served newest.0) new newest place))

pub places-retired : (old new : ℕ) (order after : List (ℕ × Entry)) (latest served : ℕ) → All (λ e. e.1.place < old) order → old ≤ new
    → after ≡ retired order latest served → All (λ e. e.1.place < new) after
places-retired old new order after latest served places grows is =
    let P : ℕ × Entry → Type 0 = λ e. e.1.place < new in
    subst (All P) (sym is) (by (nat_le latest served) (places-mono old new order grows places))
  where
    by : (b : Bool) → All (λ e. e.1.place < new) order → All (λ (e : ℕ × Entry). e.1.place < new) (if b then without_entry latest order else order)
    by true all = All-filter (λ e. not (e.0 == latest)) (λ (e : ℕ × Entry). e.1.place < new) order all
    by false all = all

pub places-given_up : (old new : ℕ) (order after : List (ℕ × Entry)) (numbers : Numbers) (retries : ℕ) → All (λ e. e.1.place < old) order → old ≤ new
    → after ≡ given_up order numbers retries → All (λ e. e.1.place < new) after
places-given_up old new order after numbers retries places grows is =
    let P : ℕ × Entry → Type 0 = λ e. e.1.place < new in
    subst (All P) (sym is) (by (nat_lt 0 numbers.latest && sets_aside numbers retries) (places-mono old new order grows places))
  where
    by : (b : Bool) → All (λ e. e.1.place < new) order → All (λ (e : ℕ × Entry). e.1.place < new) (if b then without_entry numbers.latest order else order)
    by true all = All-filter (λ e. not (e.0 == numbers.latest)) (λ (e : ℕ × Entry). e.1.place < new) order all
    by false all = all

-- ---- what a call leaves

-- a register with more rows stays as it was for its callers
pub Stays-from_keeps : (kept : Kept) (old new : List (List ℕ × Numbers)) (order ready after after_ready : List (ℕ × Entry)) → kept_of old order ready ≡ kept
    → KeepsRows old new → All (λ e. e.1.place < length old) order → All (λ e. e.1.place < length old) ready → after ≡ order → after_ready ≡ ready → Stays kept (kept_of new after after_ready)
Stays-from_keeps kept old new order ready after after_ready is keeps places ready_places same same_ready =
    let unserved = ap (map (notice_at new)) same ∙ map-notice_at old new order keeps places in
    let waiting = ap (map (notice_at new)) same_ready ∙ map-notice_at old new ready keeps ready_places in
    subst (λ (k : Kept). Stays k (kept_of new after after_ready)) is (record { unserved = unserved; ready = waiting; numbers = keeps.numbers; rows = keeps.rows })

pub OnErr-always : {T E P : Type 0} (r : Result T E) → P → OnErr r P
OnErr-always (Ok x) p = tt
OnErr-always (Err e) p = p

or-mono : (b here there : Bool) → (IsTrue here → IsTrue there) → IsTrue (b || here) → IsTrue (b || there)
or-mono true here there keeps h = h
or-mono false here there keeps h = keeps h

-- a call that found the path's place, read its numbers, changed the order and put new numbers
module _ (kept : Kept) (old mid new : List (List ℕ × Numbers)) (order ready after after_ready : List (ℕ × Entry)) (path : List ℕ) (numbers : Numbers)
    (is : kept_of old order ready ≡ kept) (keeps : KeepsRows old mid) (places : All (λ e. e.1.place < length old) order) (ready_places : All (λ e. e.1.place < length old) ready)
    (read : numbers ≡ numbers_at mid path) (same : keys_of new ≡ keys_of mid) where
  numbers_were : numbers ≡ numbers_at kept.rows path
  numbers_were = read ∙ keeps.numbers path ∙ ap (λ (k : Kept). numbers_at k.rows path) is

  unserved_were : map (notice_at mid) order ≡ kept.unserved
  unserved_were = map-notice_at old mid order keeps places ∙ ap (λ (k : Kept). k.unserved) is

  ready_were : map (notice_at mid) ready ≡ kept.ready
  ready_were = map-notice_at old mid ready keeps ready_places ∙ ap (λ (k : Kept). k.ready) is

  Puts-changed : (change : Numbers → Numbers) (put : Numbers) → put ≡ change numbers → Puts mid new path put → Puts kept.rows new path (change (numbers_at kept.rows path))
  Puts-changed change put made puts =
      let all : Puts old new path put = record {
        numbers = λ other. puts.numbers other ∙ ap (λ n. if bytes_eq path other then put else n) (keeps.numbers other);
        rows = λ other there. puts.rows other (or-mono (bytes_eq path other) _ _ (keeps.rows other) there);
      } in
      subst (λ (n : Numbers). Puts kept.rows new path n) (made ∙ ap change numbers_were) (subst (λ (k : Kept). Puts k.rows new path put) is all)

  -- one of its two orders, renewed by a newer notice
  notices-renewed : (was now : List (ℕ × Entry)) (before : List Notice) (newest : ℕ × Entry) (joins : Bool) → slice_get (keys_of mid) newest.1.place ≡ Some path
      → map (notice_at mid) was ≡ before → now ≡ renewed was numbers newest joins
      → map (notice_at new) now ≡ with_newest before (numbers_at kept.rows path) (record { path = path; seq = record { 0 = newest.0 }; what = newest.1.what }) joins
  notices-renewed was now before newest joins at were made =
      let notice : Notice = record { path = path; seq = record { 0 = newest.0 }; what = newest.1.what } in
      let shown : notice_at mid newest ≡ notice = ap (λ (p : List ℕ). let n : Notice = record { path = p; seq = record { 0 = newest.0 }; what = newest.1.what } in n) (get_or_from_slice_get (keys_of mid) newest.1.place path [] at) in
      map-same_keys mid new now same ∙ ap (map (notice_at mid)) made ∙ map-renewed mid was numbers newest joins
      ∙ ap (λ ns. with_newest ns numbers (notice_at mid newest) joins) were ∙ ap (λ n. with_newest before numbers n joins) shown
      ∙ ap (λ n. with_newest before n notice joins) numbers_were

  pub Notes-renewed : (newest : ℕ × Entry) (joins : Bool) → slice_get (keys_of mid) newest.1.place ≡ Some path → after ≡ renewed order numbers newest true → after_ready ≡ renewed ready numbers newest joins
      → Puts mid new path (record { latest = newest.0; served = numbers.served; attempts = 0; refused = false; is_out = numbers.is_out })
      → Notes kept (kept_of new after after_ready) (record { path = path; seq = record { 0 = newest.0 }; what = newest.1.what }) joins
  Notes-renewed newest joins at made made_ready puts = record {
    rows = Puts-changed (λ n. record n { latest = newest.0; attempts = 0; refused = false }) _ refl puts;
    unserved = notices-renewed order after kept.unserved newest true at unserved_were made;
    ready = notices-renewed ready after_ready kept.ready newest joins at ready_were made_ready;
  }

  notices-retired : (was now : List (ℕ × Entry)) (before : List Notice) (served : ℕ) → map (notice_at mid) was ≡ before → now ≡ retired was numbers.latest served
      → map (notice_at new) now ≡ without_served before (numbers_at kept.rows path).latest served
  notices-retired was now before served were made =
      map-same_keys mid new now same ∙ ap (map (notice_at mid)) made ∙ map-retired mid was numbers.latest served
      ∙ ap (λ ns. without_served ns numbers.latest served) were ∙ ap (λ (n : Numbers). without_served before n.latest served) numbers_were

  pub Serves-retired : (put served : ℕ) → put ≡ max numbers.served served → after ≡ retired order numbers.latest served → after_ready ≡ retired ready numbers.latest served
      → Puts mid new path (record { latest = numbers.latest; served = put; attempts = numbers.attempts; refused = numbers.refused; is_out = numbers.is_out }) → Serves kept (kept_of new after after_ready) path served
  Serves-retired put served most made made_ready puts = record {
    rows = Puts-changed (λ n. record n { served = max n.served served }) _ (ap (λ (s : ℕ). record numbers { served = s }) most) puts;
    unserved = notices-retired order after kept.unserved served unserved_were made;
    ready = notices-retired ready after_ready kept.ready served ready_were made_ready;
  }

-- a notice of a path was tried, whose numbers were read and put again
pub Tries-put : (kept : Kept) (old new : List (List ℕ × Numbers)) (order ready after_ready : List (ℕ × Entry)) (path : List ℕ) (numbers put : Numbers) (number : ℕ) (refuses : Bool) (retries : ℕ)
    → kept_of old order ready ≡ kept → numbers ≡ numbers_at old path → keys_of new ≡ keys_of old → put ≡ tried numbers number refuses → Puts old new path put
    → after_ready ≡ given_up ready put retries → Tries kept (kept_of new order after_ready) path number refuses retries
Tries-put kept old new order ready after_ready path numbers put number refuses retries is read same made puts given =
    let is_put = made ∙ ap (λ n. tried n number refuses) read in
    let all : Tries (kept_of old order ready) (kept_of new order after_ready) path number refuses retries = record {
      numbers = λ other. puts.numbers other ∙ ap (λ n. if bytes_eq path other then n else numbers_at old other) is_put;
      rows = λ other there. puts.rows other (or-right (bytes_eq path other) _ there);
      unserved = map-same_keys old new order same;
      ready =
          map-same_keys old new after_ready same ∙ ap (map (notice_at old)) given ∙ map-given_up old ready put retries
          ∙ ap (λ n. without_given_up (map (notice_at old) ready) n retries) is_put;
    } in
    subst (λ (k : Kept). Tries k (kept_of new order after_ready) path number refuses retries) is all
  where
    or-right : (a b : Bool) → IsTrue b → IsTrue (a || b)
    or-right true b there = refl
    or-right false b there = there
