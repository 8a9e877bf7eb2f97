use Rattle.std.proofs.Common.{◌≡◌, drop}
use Rattle.std.specs.List.{list_all, list_any}
use Rattle.ci_dialect.specs.Sat.{sat}
use Rattle.ci_restrict.proofs.sat.+sat.Given as goal

abbrev pub invariant-satisfies_all-loop-one : goal.invariant-satisfies_all-loop-one
invariant-satisfies_all-loop-one l =
    list_all (λ r. sat r l.path l.entry) l.all ≡ list_all (λ r. sat r l.path l.entry) (drop l.one-index l.all)

abbrev pub invariant-satisfies_any-loop-one : goal.invariant-satisfies_any-loop-one
invariant-satisfies_any-loop-one l =
    list_any (λ r. sat r l.path l.entry) l.any ≡ list_any (λ r. sat r l.path l.entry) (drop l.one-index l.any)
