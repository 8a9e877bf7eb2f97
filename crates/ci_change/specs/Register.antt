-- What a register shows: the rows of paths, and in order the unserved notices and the ready ones.
use Rattle.std.specs.Prelude.{◌≡◌, ◌==◌, ◌&&◌, ◌||◌, ◌<◌, ◌++◌, ◌+◌, ◌-◌, ◌^◌, ℕ, Bool, true, false, max, min, not, nat_le, nat_lt, IsTrue, List, [], ◌∷◌, All, bytes_eq, filter, length, map, if◌then◌else◌}
use Rattle.ci_change.specs.declared.notice.Notice.{Notice}
use Rattle.ci_change.specs.declared.order.Entry.{Entry}
use Rattle.ci_change.specs.declared.rows.Numbers.{Numbers}
use Rattle.ci_change.specs.HandedIn.{notice_of}
use Rattle.ci_change.specs.Rows.{has_row, numbers_at, path_in, sets_aside, Puts}

pub record Kept : Type 0 where
  pub rows : List (List ℕ × Numbers)
  pub unserved : List Notice
  pub ready : List Notice

-- the notice of an entry of the order
abbrev pub notice_at : List (List ℕ × Numbers) → ℕ × Entry → Notice
notice_at rows entry =
    notice_of (path_in rows entry.1.place) (record { 0 = entry.0 }) entry.1.what

-- the rows and the two orders, as they are shown
abbrev pub kept_of : List (List ℕ × Numbers) → List (ℕ × Entry) → List (ℕ × Entry) → Kept
kept_of rows order ready = record {
  rows = rows;
  unserved = map (notice_at rows) order;
  ready = map (notice_at rows) ready;
}

-- the notices without the one at a number
abbrev pub without_number : ℕ → List Notice → List Notice
without_number number notices = filter (λ n. not (n.seq.0 == number)) notices

-- the notices when a path with these numbers has a newer one, which joins them if it isn't served
abbrev pub with_newest : List Notice → Numbers → Notice → Bool → List Notice
with_newest notices numbers notice joins =
    without_number numbers.latest notices
    ++ (if joins && nat_lt numbers.served notice.seq.0 then notice ∷ [] else [])

-- the notices when a path whose latest number this is was served up to a number
abbrev pub without_served : List Notice → ℕ → ℕ → List Notice
without_served notices latest served =
    if nat_le latest served then without_number latest notices else notices

-- a count as a row has it, which stands still at its type's end
abbrev pub counted : ℕ → ℕ
counted count = min count (2 ^ 32 - 1)

-- a path's numbers when its latest notice was refused by its filter, or was tried and failed
abbrev pub tried_once : Numbers → Bool → Numbers
tried_once numbers refuses = record numbers {
  attempts = if refuses then numbers.attempts else counted (numbers.attempts + 1);
  refused = numbers.refused || refuses;
}

-- a path's numbers when the notice with this number was tried in vain, which may be an older one
abbrev pub tried : Numbers → ℕ → Bool → Numbers
tried numbers number refuses =
    if nat_lt 0 number && numbers.latest == number then tried_once numbers refuses else numbers

-- the notices when the one with a path's latest number is set aside
abbrev pub without_given_up : List Notice → Numbers → ℕ → List Notice
without_given_up notices numbers retries =
    if nat_lt 0 numbers.latest && sets_aside numbers retries
    then without_number numbers.latest notices
    else notices

-- the latest notice of the path is set aside
abbrev pub is_given_up : List (List ℕ × Numbers) → ℕ → Notice → Bool
is_given_up rows retries n = sets_aside (numbers_at rows n.path) retries

-- it is still to be tried
abbrev pub waits : List (List ℕ × Numbers) → ℕ → Notice → Bool
waits rows retries n = not (is_given_up rows retries n)

-- a notice is held where its path is in a batch that is out
abbrev pub is_held : List (List ℕ × Numbers) → Notice → Bool
is_held rows n = (numbers_at rows n.path).is_out

-- it isn't held
abbrev pub is_spare : List (List ℕ × Numbers) → Notice → Bool
is_spare rows n = not (is_held rows n)

-- so many ready notices are held
abbrev pub IsCounted : Kept → ℕ → Type 0
IsCounted kept count = count ≡ length (filter (is_held kept.rows) kept.ready)

-- each ready notice with a lower number is held
abbrev pub IsHeldBelow : Kept → ℕ → Type 0
IsHeldBelow kept number =
    All (λ n. n.seq.0 < number → is_held kept.rows n ≡ true) kept.ready

-- the path's ready notices are those with the number of its latest one
abbrev pub IsOwn : Kept → List ℕ → Type 0
IsOwn kept path =
    All (λ n. (n.seq.0 == (numbers_at kept.rows path).latest) ≡ bytes_eq n.path path) kept.ready

-- the latest notice of its path is this one, which is ready where it joins the ready ones
pub record Notes (old new : Kept) (notice : Notice) (joins : Bool) : Type 0 where
  pub rows : Puts old.rows new.rows notice.path
      (record (numbers_at old.rows notice.path) { latest = notice.seq.0; attempts = 0; refused = false })
  pub unserved :
      new.unserved ≡ with_newest old.unserved (numbers_at old.rows notice.path) notice true
  pub ready : new.ready ≡ with_newest old.ready (numbers_at old.rows notice.path) notice joins

-- the path is served up to a number at least
pub record Serves (old new : Kept) (path : List ℕ) (number : ℕ) : Type 0 where
  pub rows : Puts old.rows new.rows path
      (record (numbers_at old.rows path) { served = max (numbers_at old.rows path).served number })
  pub unserved :
      new.unserved ≡ without_served old.unserved (numbers_at old.rows path).latest number
  pub ready : new.ready ≡ without_served old.ready (numbers_at old.rows path).latest number

-- the path's latest notice was tried in vain, where it has this number
pub record Tries (old new : Kept) (path : List ℕ) (number : ℕ) (refuses : Bool) (retries : ℕ)
    : Type 0 where
  pub numbers : (other : List ℕ) → numbers_at new.rows other
      ≡ (if bytes_eq path other then tried (numbers_at old.rows path) number refuses
      else numbers_at old.rows other)
  pub rows : (other : List ℕ) → IsTrue (has_row old.rows other) → IsTrue (has_row new.rows other)
  pub unserved : new.unserved ≡ old.unserved
  pub ready : new.ready
      ≡ without_given_up old.ready (tried (numbers_at old.rows path) number refuses) retries

-- the paths that pass come to be in a batch that is out, or in none, and nothing else changes
pub record Marks (old new : Kept) (test : List ℕ → Bool) (mark : Bool) : Type 0 where
  pub numbers : (path : List ℕ) → numbers_at new.rows path ≡ record (numbers_at old.rows path)
      { is_out = if test path then mark else (numbers_at old.rows path).is_out }
  pub rows : (path : List ℕ) → IsTrue (has_row old.rows path) → IsTrue (has_row new.rows path)
  pub unserved : new.unserved ≡ old.unserved
  pub ready : new.ready ≡ old.ready

-- the same notices are unserved and ready, each path has its numbers, and no row is lost
pub record Stays (old new : Kept) : Type 0 where
  pub unserved : new.unserved ≡ old.unserved
  pub ready : new.ready ≡ old.ready
  pub numbers : (path : List ℕ) → numbers_at new.rows path ≡ numbers_at old.rows path
  pub rows : (path : List ℕ) → IsTrue (has_row old.rows path) → IsTrue (has_row new.rows path)
