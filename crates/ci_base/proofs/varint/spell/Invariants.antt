use Rattle.std.proofs.Common.{◌≡◌, ◌≤◌, ◌*◌, ◌-◌, ◌^◌, ◌++◌, length, take}
use Rattle.ci_base.specs.Varint.{groups, varint}
use Rattle.ci_base.proofs.varint.spell.Given as goal

-- the bytes written and the groups of what is left are the spelling; 128 to the power of the place, times what is
-- left, is within the value
abbrev pub invariant-loop-place : goal.invariant-loop-place
invariant-loop-place l =
    (length l.bytes ≡ 10) × (take l.place l.bytes ++ groups (9 - l.place) l.rest ≡ varint l.value) × (l.rest * 128 ^ l.place ≤ l.value)
