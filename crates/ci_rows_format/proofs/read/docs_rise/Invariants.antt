use Rattle.std.proofs.Common.{◌≡◌, ◌-◌, drop, map}
use Rattle.ci_front.specs.Front.{rises}
use Rattle.ci_rows_format.proofs.read.docs_rise.Given as goal

abbrev pub invariant-loop-place : goal.invariant-loop-place
invariant-loop-place l = rises (drop (l.place - 1) (map (λ row. row.doc.0) l.rows)) ≡ rises (map (λ row. row.doc.0) l.rows)
