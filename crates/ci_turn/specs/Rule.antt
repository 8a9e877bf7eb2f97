-- The rule of the lock: what is true between any two steps. It has three parts, each over what it needs of the seats.
use Rattle.std.specs.Prelude.{◌≡◌, ◌≢◌, ℕ, ◌+◌, ◌^◌, ◌<◌, ◌≤◌, Bool, true, false, List, [], ◌∷◌, length, map, Option, Some}
use mathlib.Core.List.{IsPrefix}
use mathlib.Core.Option.{some, none}
use mathlib.Core.Option as maybe
use lib.ListN.{get_elem?}
use Rattle.atomic_table.specs.Table.{State}
use Rattle.ci_turn.specs.declared.view.View.{View}
use Rattle.ci_turn.specs.Views.{events_of, is_there, one_if, lives}

-- a seat's place in the line
pub record Stand : Type 0 where
  pub ticket : ℕ
  pub queued : Bool
  pub holds : Bool

-- what a seat remembers
pub record Memory (E F : Type 0) : Type 0 where
  pub fixed : Option F
  pub number : ℕ
  pub seen : List E
  pub own : List E
  pub told : List E
  pub holds : Bool

-- a seat's number, and what the first seat knows of the others
pub record Role (E : Type 0) : Type 0 where
  pub lives : Bool
  pub number : ℕ
  pub drawn : ℕ
  pub made : ℕ
  pub joined : List (ℕ × List E)

module _ {E F : Type 0} where
  abbrev pub stand_of : View E F → Stand
  stand_of v = record { ticket = v.ticket; queued = v.queued; holds = v.holds }

  abbrev pub memory_of : View E F → Memory E F
  memory_of v = record { fixed = v.fixed; number = v.number; seen = v.seen; own = v.own; told = v.told; holds = v.holds }

  abbrev pub role_of : View E F → Role E
  role_of v = record { lives = lives v; number = v.number; drawn = v.drawn; made = v.made; joined = v.joined }

-- ---- the line

-- a ticket that was drawn is served or waits; who holds the value has the one that is served
pub record StandsInLine (next serving : ℕ) (away : Bool) (p : Stand) : Type 0 where
  pub known : p.ticket ≤ next
  pub waits : p.queued ≡ true → (serving ≤ p.ticket) × (p.ticket < next)
  pub holder : p.holds ≡ true → (p.queued ≡ true) × (p.ticket ≡ serving) × (away ≡ true)

-- no two seats have one ticket, and the value is away only while somebody holds it
pub record Line (next serving : ℕ) (away : Bool) (stands : List Stand) : Type 0 where
  pub served : serving ≤ next
  pub top : next ≤ 2 ^ 62
  pub each : (i : ℕ) (p : Stand) → get_elem? stands i ≡ some p → StandsInLine next serving away p
  pub apart : (i j : ℕ) (p q : Stand) → get_elem? stands i ≡ some p → get_elem? stands j ≡ some q → p.queued ≡ true → q.queued ≡ true → p.ticket ≡ q.ticket → i ≡ j
  pub out : away ≡ true → (i : ℕ) × (p : Stand) × (get_elem? stands i ≡ some p) × (p.holds ≡ true)

-- ---- what is remembered

-- a seat knows a front of the list and its own events in it; who holds the value knows all
pub record Remembers {E F : Type 0} (author : E → ℕ) (fixed : F) (log : List E) (m : Memory E F) : Type 0 where
  pub seen : IsPrefix m.seen log
  pub told : IsPrefix m.told log
  pub fixed_is : is_there m.fixed ≡ true → m.fixed ≡ Some fixed
  pub own : is_there m.fixed ≡ true → events_of author m.number log ≡ m.own
  pub whole : m.holds ≡ true → (is_there m.fixed ≡ true) × (m.seen ≡ log)

abbrev pub AllRemember : {E F : Type 0} → (E → ℕ) → F → List E → List (Memory E F) → Type 0
AllRemember {E} {F} author fixed log ms = (i : ℕ) (m : Memory E F) → get_elem? ms i ≡ some m → Remembers author fixed log m

-- ---- the numbers

-- how many seats live
abbrev pub living : {E : Type 0} → List (Role E) → ℕ
living [] = 0
living (r ∷ rs) = one_if r.lives + living rs

-- a seat that has joined had this number and these events, and no other seat has the number
pub record IsGone {E : Type 0} (author : E → ℕ) (log : List E) (made : ℕ) (roles : List (Role E)) (j : ℕ × List E) : Type 0 where
  pub below : j.0 ≤ made
  pub events : events_of author j.0 log ≡ j.1
  pub alone : (i : ℕ) (r : Role E) → get_elem? roles i ≡ some r → r.lives ≡ true → r.number ≢ j.0

-- the first seat has 0 and knows the last number; no two seats have one number, and each seat made lives or has joined
pub record Roster {E : Type 0} (author : E → ℕ) (log : List E) (seats : ℕ) (roles : List (Role E)) : Type 0 where
  pub first : Role E
  pub at : get_elem? roles 0 ≡ some first
  pub first_lives : first.lives ≡ true
  pub first_number : first.number ≡ 0
  pub word : seats ≡ first.drawn + 1
  pub given : first.made ≤ first.drawn
  pub below : (i : ℕ) (r : Role E) → get_elem? roles i ≡ some r → r.lives ≡ true → r.number ≤ first.made
  pub alone : (i j : ℕ) (r q : Role E) → get_elem? roles i ≡ some r → get_elem? roles j ≡ some q → r.lives ≡ true → q.lives ≡ true → r.number ≡ q.number → i ≡ j
  pub later : (n : ℕ) → first.made < n → events_of author n log ≡ []
  pub gone : (k : ℕ) (j : ℕ × List E) → get_elem? first.joined k ≡ some j → IsGone author log first.made roles j
  pub count : living roles + length first.joined ≡ first.made + 1

-- ---- all of it

abbrev pub is_away : {A : Type 0} → maybe.Option A → Bool
is_away none = true
is_away (some x) = false

-- the words are the next seat's number, the next ticket, and the ticket that is served; the one slot has the value
pub record Kept {X E F : Type 0} (list : X → List E) (author : E → ℕ) (stands : X → F → Type 0) (fixed : F) (s : State (Option X) (View E F)) : Type 0 where
  pub log : List E
  pub seats : ℕ
  pub next : ℕ
  pub serving : ℕ
  pub home : maybe.Option (Option X)
  pub words : s.words ≡ seats ∷ next ∷ serving ∷ []
  pub homes : s.homes ≡ home ∷ []
  pub line : Line next serving (is_away home) (map stand_of s.views)
  pub memories : AllRemember author fixed log (map memory_of s.views)
  pub roster : Roster author log seats (map role_of s.views)
  pub lies : (x : Option X) → home ≡ some x → (y : X) × (x ≡ Some y) × (list y ≡ log) × stands y fixed
