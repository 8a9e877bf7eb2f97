-- What a seat knows, and how the calls of the lock change it.
use Rattle.std.specs.Prelude.{◌≡◌, ℕ, ◌+◌, ◌==◌, ltb, if◌then◌else◌, Bool, true, false, List, [], ◌∷◌, ◌++◌, length, drop, filter, All, Option, Some, None}
use Rattle.atomic_table.specs.declared.shared.Seat.{Seat}
use Rattle.ci_turn.specs.declared.view.View.{View}

-- the events of the seat of a number, in order
abbrev pub events_of : {E : Type 0} → (E → ℕ) → ℕ → List E → List E
events_of author number events = filter (λ e. author e == number) events

-- the value stands for the fixed part that a seat has
abbrev pub StandsFor : {X F : Type 0} → (X → F → Type 0) → X → Option F → Type 0
StandsFor stands x (Some fixed) = stands x fixed
StandsFor stands x None = ⊥

-- an option has a value
abbrev pub is_there : {A : Type 0} → Option A → Bool
is_there (Some x) = true
is_there None = false

-- a truth as a number, to count by
abbrev pub one_if : Bool → ℕ
one_if true = 1
one_if false = 0

-- the longer of two lists
abbrev pub longer : {E : Type 0} → List E → List E → List E
longer xs ys = if ltb (length xs) (length ys) then ys else xs

-- what a seat carries of the slot, between two calls: the empty place while it holds the value
abbrev pub carried_by : {X : Type 0} → Bool → List (ℕ × Option X)
carried_by true = (0, None) ∷ []
carried_by false = []

-- the list is the one that was seen, followed by events of the seat's number
pub record Adds {E : Type 0} (author : E → ℕ) (number : ℕ) (seen list : List E) : Type 0 where
  pub new : List E
  pub list_is : list ≡ seen ++ new
  pub by_number : All (λ e. author e ≡ number) new

module _ {E F : Type 0} where
  -- what is known behind a token
  abbrev pub view_of : {X : Type 0} → Seat X (View E F) → View E F
  view_of token = token.me.0

  -- the view changes, and what is carried doesn't
  abbrev pub Becomes : {X : Type 0} → (View E F → View E F) → Seat X (View E F) → Seat X (View E F) → Type 0
  Becomes change before now = now.me ≡ (change before.me.0, before.me.1)

  -- a seat that isn't spent has the fixed part
  abbrev pub lives : View E F → Bool
  lives v = is_there v.fixed

  -- the first seat, before anything was seen
  abbrev pub first_view : F → ℕ → View E F
  first_view fixed first = record { fixed = Some fixed; number = 0; seen = []; own = []; told = []; ticket = first; queued = false; holds = false; drawn = 0; made = 0; joined = [] }

  -- a seat that was joined knows nothing
  abbrev pub spent : View E F
  spent = record { fixed = None; number = 0; seen = []; own = []; told = []; ticket = 0; queued = false; holds = false; drawn = 0; made = 0; joined = [] }

  -- one number more is drawn
  abbrev pub after_number : View E F → View E F
  after_number v = record v { drawn = v.drawn + 1 }

  -- the number drawn is given to a seat
  abbrev pub after_split : View E F → View E F
  after_split v = record v { made = v.drawn }

  -- the seat that gets it: it knows as much, and has no events
  abbrev pub newcomer : View E F → View E F
  newcomer v = record v { number = v.drawn; own = []; told = []; queued = false; holds = false; drawn = 0; made = 0; joined = [] }

  -- another seat's number and own events are kept, and what it has seen is to be compared
  abbrev pub after_note : View E F → View E F → View E F
  after_note v w = record v { told = w.seen; joined = v.joined ++ (w.number, w.own) ∷ [] }

  -- the longer of what was seen and what was told is seen
  abbrev pub after_look : View E F → View E F
  after_look v = record v { seen = longer v.seen v.told; told = [] }

  -- the next ticket was this one
  abbrev pub after_miss : View E F → ℕ → View E F
  after_miss v ticket = record v { ticket = ticket }

  -- the ticket is drawn
  abbrev pub after_draw : View E F → ℕ → View E F
  after_draw v ticket = record v { ticket = ticket; queued = true }

  -- the value is at hand
  abbrev pub after_served : View E F → List E → View E F
  after_served v list = record v { seen = list; holds = true }

  -- the value went back with this list
  abbrev pub after_pass : View E F → List E → View E F
  after_pass v list = record v { seen = list; own = v.own ++ drop (length v.seen) list; ticket = v.ticket + 1; queued = false; holds = false }

  -- ---- what public calls do

  -- a seat was split off
  abbrev pub with_seat : View E F → View E F
  with_seat v = after_split (after_number v)

  abbrev pub new_seat : View E F → View E F
  new_seat v = newcomer (after_number v)

  -- a seat was joined
  abbrev pub with_joined : View E F → View E F → View E F
  with_joined v w = after_look (after_note v w)

  -- the value was taken at a ticket
  abbrev pub with_turn : View E F → ℕ → List E → View E F
  with_turn v ticket list = after_served (after_draw v ticket) list
