-- What a journal tells of the daemon: whether it could be started, and who holds a link to it.
use Rattle.std.specs.Prelude.{◌≡◌, ◌+◌, ◌==◌, ℕ, Bool, true, false, List, Some, filter, fold, slice_get, take, unwrap_or}
use Rattle.std.specs.List.{list_any}
use Rattle.ci_change.specs.declared.batch.Batch.{Batch}
use Rattle.ci_journal.specs.declared.event.Event.{Event}
use Rattle.ci_journal.specs.declared.event.Happened.TheVariants.{Begun, Started}
use Rattle.ci_journal.specs.Tells.{Start, event, last_of, tellings}
use Rattle.ci_journal.specs.Tells.Start.{Came, Failed, Lost}

-- how many failed starts end all trying
abbrev pub most_failures : ℕ
most_failures = 8

abbrev pub failures_behind : ℕ → Start → ℕ
failures_behind count Came = 0
failures_behind count Failed = count + 1
failures_behind count Lost = count

-- the starts that failed since the last that came
abbrev pub failures : List Event → ℕ
failures journal = fold failures_behind 0 (tellings (λ t. t.start) journal)

abbrev pub is_loss : Start → Bool
is_loss Lost = true
is_loss _ = false

-- no start is tried any more
abbrev pub is_lost : List Event → Bool
is_lost journal = list_any is_loss (tellings (λ t. t.start) journal)

-- the author started the daemon, and none of its batches died since
abbrev pub holds_link : List Event → ℕ → Bool
holds_link journal by = unwrap_or (last_of (tellings (λ t. t.link) (filter (λ e. e.by == by) journal))) false

-- an author begins batches while it holds a link, and starts the daemon while it holds none
pub record KeepsLinks (journal : List Event) : Type 0 where
  pub begins : (place by : ℕ) (batch : Batch) → slice_get journal place ≡ Some (event by (Begun batch))
      → holds_link (take place journal) by ≡ true
  pub starts : (place by : ℕ) → slice_get journal place ≡ Some (event by Started)
      → holds_link (take place journal) by ≡ false
