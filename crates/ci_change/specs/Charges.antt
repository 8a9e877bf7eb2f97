-- Charges and refusals: a charge says that a notice was tried and failed, a refusal that its filter refused it.
use Rattle.std.specs.Prelude.{◌&&◌, ℕ, Bool, nat_le, nat_lt, List, [], ◌∷◌, ◌++◌, if◌then◌else◌}
use Rattle.ci_base.specs.declared.numbers.Seq.{Seq}
use Rattle.ci_change.specs.declared.notice.Notice.{Notice}
use Rattle.ci_change.specs.HandedIn.{HandedIn}
use Rattle.ci_change.specs.Pending.{charges_of, latest_number}

-- the path was noted under this number or a later one; 0 is the number of no notice
abbrev pub was_reached : List Notice → List ℕ → ℕ → Bool
was_reached notices path number = nat_lt 0 number && nat_le number (latest_number notices path)

-- the charges, and one more; one that comes before its notice says nothing
abbrev pub charges_with : List Notice → List (List ℕ × Seq) → List ℕ → Seq → List (List ℕ × Seq)
charges_with notices charges path seq =
    if was_reached notices path seq.0 then charges ++ (path, seq) ∷ [] else charges

-- the refusals, and one more; one that comes before its notice says nothing either
abbrev pub refusals_with : List Notice → List (List ℕ × Seq) → List ℕ → Seq → List (List ℕ × Seq)
refusals_with notices refusals path seq =
    if was_reached notices path seq.0 then refusals ++ (path, seq) ∷ [] else refusals

-- one charge more
abbrev pub with_charge : HandedIn → List ℕ → Seq → HandedIn
with_charge handed path seq =
    record handed { charges = charges_with handed.notices handed.charges path seq }

-- one refusal more
abbrev pub with_refusal : HandedIn → List ℕ → Seq → HandedIn
with_refusal handed path seq =
    record handed { refusals = refusals_with handed.notices handed.refusals path seq }

-- how often a path's latest notice was tried and failed
abbrev pub attempts_at : HandedIn → List ℕ → ℕ
attempts_at handed path =
    charges_of handed.charges path (latest_number handed.notices path)
