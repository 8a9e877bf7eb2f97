use Rattle.std.proofs.Common.{◌≡◌, ◌-◌, drop, map}
use Rattle.ci_front.specs.Front.{rises}
use Rattle.ci_rows_format.proofs.fields.properties_rise.Given as goal

abbrev pub invariant-loop-place : goal.invariant-loop-place
invariant-loop-place l = rises (drop (l.place - 1) (map (λ value. value.0.0) l.values)) ≡ rises (map (λ value. value.0.0) l.values)
