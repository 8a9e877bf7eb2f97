-- What the functions that read items and join operands ensure.
use Rattle.std.specs.Prelude.{◌≡◌, ◌≤◌, ℕ, ◌+◌, List, [], ◌∷◌, ◌++◌, length, Option, Some, None}
use Rattle.ci_pieces.specs.Cut.{Cut}
use Rattle.ci_dialect.specs.declared.fault.QueryFault.{QueryFault}
use Rattle.ci_dialect.specs.declared.fault.QueryFault.TheVariants.{TooLong}
use Rattle.ci_dialect.specs.declared.restriction.Restriction.{Restriction}
use Rattle.ci_dialect.specs.declared.slots.Slot.{Slot}
use Rattle.ci_dialect.specs.declared.slots.Slot.TheVariants.{Word, Open}
use Rattle.ci_dialect.specs.Joined.{joined}
use Rattle.ci_dialect.specs.Step.{most_words, too_long}
use Rattle.ci_dialect.specs.Words.{words_of}

-- one place more; an open one begins nothing
abbrev pub with_slot : List Slot → Slot → List Slot
with_slot slots (Word word) = slots ++ Word word ∷ []
with_slot [] Open = []
with_slot (slot ∷ more) Open = slot ∷ more ++ Open ∷ []

-- these are the words of the items, and with them there aren't too many
pub record HasRead (read : ℕ) (items : List Cut) (read_words : List (List ℕ)) : Type 0 where
  pub words : read_words ≡ words_of items
  pub few : too_long read items ≡ None
  pub bound : read + length read_words ≤ most_words

abbrev pub IsTooLong : Option ℕ → QueryFault → Type 0
IsTooLong (Some at) fault = fault ≡ TooLong at
IsTooLong None fault = ⊥

-- one operand stands for itself; more are joined
abbrev pub joined_list : (List Restriction → Restriction) → List Restriction → Restriction
joined_list join [] = join []
joined_list join (first ∷ others) = joined join first others
