-- A volume as its contracts see it.
use Rattle.std.specs.Prelude.{ℕ, ◌+◌}
use Rattle.ci_volume.specs.declared.slot.Slot.{Slot}

-- what the slot of the next generation has, whose root is this chain
abbrev pub next_slot : Slot → ℕ → ℕ → Slot
next_slot slot root length = record slot { generation = slot.generation + 1; root = root; length = length }
