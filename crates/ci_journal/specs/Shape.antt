-- What the index is made of, and what of it outlives a stop.
use Rattle.std.specs.Prelude.{◌+◌, ◌-◌, ◌==◌, ℕ, Bool, true, false, List, Some, None, fold, length, take, if◌then◌else◌}
use Rattle.std.specs.FinMap as map_of_keys
use Rattle.ci_change.specs.declared.notice.Notice.{Notice}
use Rattle.ci_change.specs.Pending.{unserved_of}
use Rattle.ci_journal.specs.declared.counts.Counts.{Counts}
use Rattle.ci_journal.specs.declared.counts.Shape.{Shape as Form}
use Rattle.ci_journal.specs.declared.counts.Shape.TheVariants as shape
use Rattle.ci_journal.specs.declared.event.Event.{Event}
use Rattle.ci_journal.specs.declared.event.Happened.{Happened}
use Rattle.ci_journal.specs.declared.event.Happened.TheVariants.{Shadowed}
use Rattle.ci_journal.specs.Tells.{Layer, tellings}
use Rattle.ci_journal.specs.Tells.Layer.{WordList, Shadow, Half, Slice, Master}
use Rattle.ci_journal.specs.Folds.{notices}
use Rattle.ci_journal.specs.Served.{live_map, served_numbers}
use Rattle.ci_journal.specs.Pending.{pending, unfiltered}
use Rattle.ci_journal.specs.Terms.{Documents, Merge, Terms}
use Rattle.ci_journal.specs.Terms.Merge.{Never, Running, Ended}

-- how many word lists, and how many shadows, there may be
abbrev pub most_lists : ℕ
most_lists = 32

abbrev pub most_shadows : ℕ
most_shadows = 32

abbrev pub layers : List Event → List Layer
layers journal = tellings (λ t. t.layer) journal

-- a shadow takes all word lists
abbrev pub lists_behind : ℕ → Layer → ℕ
lists_behind count WordList = count + 1
lists_behind count Shadow = 0
lists_behind count _ = count

-- the word lists since the last shadow
abbrev pub lists : List Event → ℕ
lists journal = fold lists_behind 0 (layers journal)

-- where there are as many shadows as may be, the next one takes them too; a master merge takes all
abbrev pub shadows_behind : ℕ → Layer → ℕ
shadows_behind count Shadow = if count == most_shadows then 1 else count + 1
shadows_behind count Half = 0
shadows_behind count _ = count

abbrev pub shadows : Terms → List Event → ℕ
shadows terms journal = fold shadows_behind terms.beginning.shadows (layers journal)

abbrev pub merge_behind : Merge → Layer → Merge
merge_behind merge Half = Running None
merge_behind merge (Slice split) = Running (Some split)
merge_behind merge Master = Ended
merge_behind merge _ = merge

abbrev pub merge : Terms → List Event → Merge
merge terms journal = fold merge_behind terms.beginning.merge (layers journal)

abbrev pub is_half : Merge → Bool
is_half (Running split) = true
is_half _ = false

abbrev pub shape_of : Merge → Form
shape_of Never = shape.Absent
shape_of (Running split) = shape.Half
shape_of Ended = shape.Whole

-- what `status` tells
abbrev pub counts : Terms → List Event → Counts
counts terms journal = record {
  documents = length (map_of_keys.entries (live_map terms journal));
  pending = length (pending terms journal);
  unfiltered = length (unfiltered terms journal);
  lists = lists journal;
  shadows = shadows terms journal;
  master = shape_of (merge terms journal);
}

abbrev pub behind_shadow : ℕ → Happened → ℕ
behind_shadow count Shadowed = 0
behind_shadow count _ = count + 1

-- the journal up to its last shadow, and empty without one
abbrev pub shadowed_front : List Event → List Event
shadowed_front journal = take (length journal - fold (λ count e. behind_shadow count e.what) 0 journal) journal

-- the map that outlives a stop
abbrev pub durable : Terms → List Event → Documents
durable terms journal = live_map terms (shadowed_front journal)

-- the latest notice of each path that is above the number that outlives a stop, in ascending order
abbrev pub later : Terms → List Event → List Notice
later terms journal = unserved_of (notices terms journal) (served_numbers terms (shadowed_front journal))
