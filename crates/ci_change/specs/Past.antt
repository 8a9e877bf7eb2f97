-- What `Steps` remembers.
use Rattle.std.specs.Prelude.{[], ◌∷◌, ◌++◌, ◌+◌}
use Rattle.ci_change.specs.Charges.{charges_with, refusals_with}
use Rattle.ci_change.specs.HandedIn.{Remembered, no_history, notice_of}
use Rattle.ci_change.specs.declared.steps.Step.{Step}
use Rattle.ci_change.specs.declared.steps.Step.TheVariants.{Start, Noted, Served, Charged, Refused, Same}

-- what was handed in before the last step, and in it
abbrev pub handed_in : Step → Remembered
handed_in Start = record { history = no_history; steps = 0 }
handed_in (Noted before path seq what) =
    let past = before.value.history in
    record {
      history = record past { notices = past.notices ++ notice_of path.value seq what ∷ [] };
      steps = before.value.steps + 1;
    }
handed_in (Served before path seq) =
    let past = before.value.history in
    record {
      history = record past { served = past.served ++ (path.value, seq) ∷ [] };
      steps = before.value.steps + 1;
    }
handed_in (Charged before path seq) =
    let past = before.value.history in
    record {
      history = record past { charges = charges_with past.notices past.charges path.value seq };
      steps = before.value.steps + 1;
    }
handed_in (Refused before path seq) =
    let past = before.value.history in
    record {
      history = record past { refusals = refusals_with past.notices past.refusals path.value seq };
      steps = before.value.steps + 1;
    }
handed_in (Same before) =
    record { history = before.value.history; steps = before.value.steps + 1 }
